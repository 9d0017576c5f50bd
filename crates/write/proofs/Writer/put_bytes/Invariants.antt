use Rattle.std.proofs.Common.{length}
use lib.ListN.{get_or}
use Rattle.lists.proofs.Writing.{Written}
use Rattle.write.proofs.Writer.put_bytes.Given as goal

abbrev pub invariant-loop-i : goal.invariant-loop-i
invariant-loop-i l = Written (λ i. get_or l.bytes i 0) (length l.initial.place-items) l.i l.initial.place-items l.place-items
