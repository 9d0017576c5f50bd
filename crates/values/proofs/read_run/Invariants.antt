use lib.ListN.{length}
use Rattle.lists.proofs.Writing.{Written}
use Rattle.values.specs.Reading.{element_of}
use Rattle.values.proofs.read_run.Given as goal

abbrev pub invariant-loop-i : goal.invariant-loop-i
invariant-loop-i g l = Written (λ k. g.T.Element.of_number (element_of g.T.Element.DIGITS l.field k)) (length l.initial.x-items) l.i l.initial.x-items l.x-items
