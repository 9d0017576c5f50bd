use lib.ListN.{length}
use Rattle.lists.proofs.Writing.{Written}
use Rattle.marks.specs.Word.{first_word}
use Rattle.marks.proofs.mark_live.Given as goal

abbrev pub invariant-loop-i : goal.invariant-loop-i
invariant-loop-i l = Written (first_word l.n) (length l.initial.alive) l.i l.initial.alive l.alive
