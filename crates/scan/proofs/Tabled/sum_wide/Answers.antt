use native.Mathlib.Omega.{arith}
use mathlib.Core.Path.{subst}
use Prim.Native.Nat.{ℕ, ◌+◌, ◌*◌}
use mathlib.Core.List.{List}
use lib.Ieee.{Float}
use Rattle.marks.specs.Live.{marks_in}
use Rattle.scan.specs.Groups.{part_at, wide_lanes, Summed}
use Rattle.scan.proofs.Kernels.{length-wide}
use Rattle.scan.proofs.Parts.{summed-two}
use Rattle.scan.proofs.Tabled.sum_wide.Goals as goal

pub loop-half-preserved : goal.loop-half-preserved
loop-half-preserved c =
    let t = c.args.self.now in
    let lanes : ℕ → List Float = λ i. wide_lanes t.of.bits t.pairs.now t.of.query.now (part_at t.of.size i t.of.codes.now) in
    let k = c.loop-half.half * 2 in
    subst (λ (n : ℕ). Summed 4 lanes (marks_in t.of.marks.now) c.args.first c.args.many n c.sum_two.new.sums) {x = k + 2} {y = (c.loop-half.half + 1) * 2} (omega arith)
    (summed-two 4 lanes (marks_in t.of.marks.now) c.args.first c.args.many k c.min.result c.loop-half.sums c.loop-half.invariant (omega arith) (λ l. omega arith)
    c.sum_two.new.sums (λ i. length-wide _ _ _ _) (omega arith) (omega arith) c.sum_two.ensures)
