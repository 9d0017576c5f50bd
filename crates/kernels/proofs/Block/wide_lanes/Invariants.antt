use Rattle.kernels.proofs.Wide.{InFour}
use Rattle.kernels.proofs.Block.wide_lanes.Given as goal

abbrev pub invariant-loop-i : goal.invariant-loop-i
invariant-loop-i l = InFour l.self.codes.now l.self.query.now l.self.centroids.now l.self.bits l.acc l.i
