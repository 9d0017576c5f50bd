use lib.ListN.{length}
use Rattle.nearest.proofs.Counting.{Tallied}
use Rattle.nearest.proofs.count_distances.Given as goal

-- How many of the slots so far have each distance.
abbrev pub invariant-loop-slot : goal.invariant-loop-slot
invariant-loop-slot l = Tallied l.distances l.counts (length l.initial.counts) l.slot
