use native.Mathlib.Omega.{arith}
use borrow.Author.Tests.{eqb-true}
use Rattle.positions.specs.Positions.{greater, again}
use Rattle.positions.proofs.HeldKeys.follows_slot.Goals as goal

pub returns-then-self-before : goal.returns-then-self-before
returns-then-self-before c = λ e. greater c.if-self-before.true (eqb-true _ _ e)

pub returns-then-self-before-2 : goal.returns-then-self-before-2
returns-then-self-before-2 c = λ e. again c.if-self-before-2.true (omega (arith, eqb-true _ _ e))
