use Prim.Native.Nat.{◌+◌}
use Rattle.nearest.proofs.Pairs.{Few}
use Rattle.nearest.proofs.distances.Tops.few_apart.Given as goal

abbrev pub invariant-loop-i : goal.invariant-loop-i
invariant-loop-i l = Few l.self.even.now l.self.odd.now l.block l.from (l.from + l.n) l.sum l.i
