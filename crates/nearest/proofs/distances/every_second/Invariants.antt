use Prim.Native.Nat.{◌+◌, ◌*◌}
use lib.ListN.{length, get_or}
use Rattle.lists.proofs.Writing.{Written}
use Rattle.nearest.proofs.distances.every_second.Given as goal

abbrev pub invariant-loop-i : goal.invariant-loop-i
invariant-loop-i l = Written (λ j. get_or l.tops (j * 2 + l.first) 0) (length l.initial.top-items) l.i l.initial.top-items l.top-items
