use native.Mathlib.Omega.{arith}
use Rattle.lists.proofs.Writing.{written_none, written-more, written-whole}
use Rattle.held_order.proofs.number.Goals as goal

pub loop-i-init : goal.loop-i-init
loop-i-init c = written_none _ _ _ (omega arith)

pub loop-i-preserved : goal.loop-i-preserved
loop-i-preserved c = written-more _ _ _ (omega arith) c.loop-i.invariant (omega (arith, c.loop-i.invariant.same, c.loop-i-test.true))

pub returns : goal.returns
returns c = written-whole (λ j. j) _ c.loop-i.invariant (omega (arith, c.loop-i.invariant.same, c.loop-i-test.false))
