use Prim.Native.Nat.{◌+◌, ◌-◌, ◌*◌, ◌≤◌}
use native.Mathlib.Omega.{arith}
use Rattle.nearest.proofs.Pairs.{pairs-fewer, few-low, few-more, few-all}
use Rattle.nearest.proofs.distances.Tops.few_apart.Goals as goal

pub overflow_add-sum-in-loop-i : goal.overflow_add-sum-in-loop-i
overflow_add-sum-in-loop-i c =
    let pairs = pairs-fewer c.args.self.now.split.pairs (c.args.from + c.args.n) c.requires.2 in
    let low : c.loop-i.sum + (c.abs_diff.result + c.abs_diff-in-loop-i.result) ≤ 6 * (c.loop-i.i + 1 - c.args.from) =
    few-low c.loop-i.invariant pairs (λ k. (c.type_inv.block k).fits) c.loop-i-test.true _ _ c.abs_diff.ensures c.abs_diff-in-loop-i.ensures in
    record { fits = omega (arith, low, c.requires.0, c.loop-i-test.true, c.loop-i.auto.i) }

pub loop-i-preserved : goal.loop-i-preserved
loop-i-preserved c =
    let pairs = pairs-fewer c.args.self.now.split.pairs (c.args.from + c.args.n) c.requires.2 in
    few-more c.loop-i.invariant pairs (λ k. (c.type_inv.block k).fits) c.loop-i-test.true _ _ c.abs_diff.ensures c.abs_diff-in-loop-i.ensures

pub returns : goal.returns
returns c = few-all c.loop-i.invariant c.loop-i-test.false
