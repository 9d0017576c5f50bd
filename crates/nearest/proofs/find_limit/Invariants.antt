use Rattle.nearest.proofs.Counting.{Nearer}
use Rattle.nearest.proofs.find_limit.Given as goal

-- How many slots are below the distance, which are no more than r.
abbrev pub invariant-loop-distance : goal.invariant-loop-distance
invariant-loop-distance l = Nearer l.distances l.r l.nearer l.distance
