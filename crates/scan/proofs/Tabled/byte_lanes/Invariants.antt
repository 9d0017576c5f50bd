use Prim.Native.Nat.{◌*◌}
use Rattle.score.proofs.Lanes.{InLanes}
use Rattle.scan.proofs.Kernels.{bytes_terms}
use Rattle.scan.proofs.Tabled.byte_lanes.Given as goal

abbrev pub invariant-loop-group : goal.invariant-loop-group
invariant-loop-group l = InLanes 8 (bytes_terms l.self.evens.now l.self.odds.now l.self.pairs.now l.block) l.acc (l.group * 8)
