use Prim.Native.Nat.{◌*◌}
use Rattle.score.specs.Score.{byte_terms}
use Rattle.score.proofs.Lanes.{InLanes}
use Rattle.kernels.proofs.Block.byte_lanes.Given as goal

abbrev pub invariant-loop-group : goal.invariant-loop-group
invariant-loop-group l = InLanes 8 (byte_terms l.self.centroids.now l.self.codes.now l.self.query.now) l.acc (l.group * 8)
