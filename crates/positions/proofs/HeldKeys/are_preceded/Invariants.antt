use Prim.Native.Nat.{ℕ, ◌<◌}
use Rattle.positions.specs.Lent.{keys_of}
use Rattle.positions.specs.Ordered.{Preceded}
use Rattle.positions.proofs.HeldKeys.are_preceded.Given as goal

abbrev pub invariant-loop-slot : goal.invariant-loop-slot
invariant-loop-slot l = (j : ℕ) → j < l.slot → Preceded (keys_of l.self) l.self.n j
