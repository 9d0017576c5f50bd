use borrow.Author.Tests.{eqb-true}
use Rattle.positions.specs.Positions.{first}
use Rattle.positions.proofs.Rising.{rising-keyed}
use Rattle.positions.proofs.HeldKeys.follows.Goals as goal

pub returns-in-None : goal.returns-in-None
returns-in-None c = λ e. rising-keyed _ _ _ c.if-not-self-slot.false (rw c.in-None.is (first (eqb-true _ _ e)))
