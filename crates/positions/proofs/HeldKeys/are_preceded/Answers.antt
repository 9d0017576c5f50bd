use native.Mathlib.Omega.{arith}
use borrow.Author.Count.{below_more}
use Rattle.positions.proofs.Decides.{holds, fails}
use Rattle.positions.proofs.HeldKeys.are_preceded.Goals as goal

pub loop-slot-preserved : goal.loop-slot-preserved
loop-slot-preserved c = below_more _ _ c.loop-slot.invariant (c.is_preceded.ensures.yes c.if-not-is_preceded.false)

pub returns-then-not-is_preceded : goal.returns-then-not-is_preceded
returns-then-not-is_preceded c = fails (λ f. c.is_preceded.ensures.no c.if-not-is_preceded.true (f _ c.loop-slot-test.true))

pub returns : goal.returns
returns c = holds (λ j l. c.loop-slot.invariant j (omega arith))
