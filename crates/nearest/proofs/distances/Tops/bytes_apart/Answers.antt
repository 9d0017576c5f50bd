use Prim.Native.Nat.{◌+◌, ◌*◌, ◌/◌, ◌%◌, ◌≤◌}
use mathlib.Core.Path.{◌≡◌}
use native.Mathlib.Omega.{arith}
use Rattle.nearest.specs.Lanes.{bytes_apart}
use Rattle.nearest.proofs.Lanes.{gained-part, gained-rest}
use Rattle.nearest.proofs.Pairs.{pairs-fewer, bytes_most}
use Rattle.nearest.proofs.distances.Tops.bytes_apart.Goals as goal

pub overflow_add-sum : goal.overflow_add-sum
overflow_add-sum c =
    let pairs = pairs-fewer c.args.self.now.split.pairs c.args.n c.requires.1 in
    let low : c.loop-part.sum ≤ 6 * (c.loop-part.part * 32) = bytes_most pairs c.args.block.now (λ k. (c.type_inv.block k).fits) c.loop-part.invariant in
    record { fits = omega (arith, low, c.loop-part.invariant.within, c.requires.1, c.args.self.now.few, c.few_apart.type_inv) }

pub loop-part-preserved : goal.loop-part-preserved
unfolding bytes_apart
loop-part-preserved c =
    let next : (c.loop-part.part + 1) * 32 ≡ c.loop-part.part * 32 + 32 = omega arith in
    rw next (gained-part c.loop-part.invariant _ _ (omega (arith, c.loop-part-test.true)) c.few_apart.ensures)

pub overflow_add-result : goal.overflow_add-result
overflow_add-result c =
    let pairs = pairs-fewer c.args.self.now.split.pairs c.args.n c.requires.1 in
    let low : c.loop-part.sum ≤ 6 * (c.loop-part.part * 32) = bytes_most pairs c.args.block.now (λ k. (c.type_inv.block k).fits) c.loop-part.invariant in
    record { fits = omega (arith, low, c.loop-part.invariant.within, c.requires.1, c.args.self.now.few, c.few_apart-2.type_inv) }

pub returns : goal.returns
unfolding bytes_apart
returns c =
    let all : c.loop-part.part * 32 ≡ c.args.n / 32 * 32 = omega (arith, c.loop-part-test.false, c.loop-part.auto.part-end) in
    gained-rest c.loop-part.invariant (c.args.n / 32 * 32) (c.args.n % 32) _ all (omega arith) c.few_apart-2.ensures
