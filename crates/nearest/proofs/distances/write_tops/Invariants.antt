use lib.ListN.{length, get_or}
use lib.Ieee.{nan}
use Rattle.lists.proofs.Writing.{Written}
use Rattle.nearest.specs.Lanes.{top_of}
use Rattle.nearest.proofs.distances.write_tops.Given as goal

abbrev pub invariant-loop-lane : goal.invariant-loop-lane
invariant-loop-lane l = Written (λ j. top_of l.boundaries l.rnorm (get_or l.query j nan)) (length l.initial.top-items) l.lane l.initial.top-items l.top-items
