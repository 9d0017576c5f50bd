use Prim.Native.Nat.{◌*◌}
use Rattle.nearest.specs.Lanes.{byte_apart}
use Rattle.nearest.proofs.Lanes.{Gained}
use Rattle.nearest.proofs.distances.Tops.bytes_apart.Given as goal

abbrev pub invariant-loop-part : goal.invariant-loop-part
invariant-loop-part l = Gained (byte_apart l.self.even.now l.self.odd.now l.block) 0 l.n l.sum (l.part * 32)
