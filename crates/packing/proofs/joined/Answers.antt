use native.Mathlib.Omega.{arith}
use Rattle.packing.proofs.Eights.{joined-fits}
use Rattle.packing.proofs.joined.Goals as goal

pub overflow_mul-sum : goal.overflow_mul-sum
overflow_mul-sum c =
    let at = c.loop-code in
    omega (arith, joined-fits c.args.bits c.args.codes.now _ _ _ c.power-base.result at.sum c.in-Some.ensures.steps c.power-base.ensures at.invariant.0 at.invariant.1 c.requires.0 c.requires.1 c.requires.2)

pub overflow_add-sum : goal.overflow_add-sum
overflow_add-sum c =
    let at = c.loop-code in
    omega (arith, c.from.ensures, joined-fits c.args.bits c.args.codes.now _ _ _ c.power-base.result at.sum c.in-Some.ensures.steps c.power-base.ensures at.invariant.0 at.invariant.1 c.requires.0 c.requires.1 c.requires.2)
