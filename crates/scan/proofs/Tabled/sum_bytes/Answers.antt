use native.Mathlib.Omega.{arith}
use Rattle.scan.specs.Groups.{part_at, byte_lanes}
use Rattle.scan.proofs.Kernels.{length-bytes}
use Rattle.scan.proofs.Parts.{summed-more}
use Rattle.scan.proofs.Tabled.sum_bytes.Goals as goal

pub loop-k-preserved : goal.loop-k-preserved
loop-k-preserved c =
    let t = c.args.self.now in
    summed-more 8 (λ i. byte_lanes t.evens.now t.odds.now t.pairs.now (part_at t.of.size i t.of.codes.now)) _ _ _ _ _
    c.loop-k.invariant _ (length-bytes _ _ _ _) (omega arith) c.sum_slot.ensures
