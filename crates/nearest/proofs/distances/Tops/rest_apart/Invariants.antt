use Rattle.nearest.specs.Lanes.{lane_apart}
use Rattle.nearest.proofs.Lanes.{Gained}
use Rattle.nearest.proofs.distances.Tops.rest_apart.Given as goal

abbrev pub invariant-loop-lane : goal.invariant-loop-lane
invariant-loop-lane l = Gained (lane_apart l.self.all.now l.block) l.from l.self.lanes l.sum l.lane
