use Prim.Native.Nat.{◌-◌}
use lib.ListN.{length}
use Rattle.positions.proofs.Walks.{Walks}
use Rattle.positions.proofs.HeldKeys.find.Given as goal

-- What holds along a walk. The measure falls because the places rise.
abbrev pub invariant-loop-place : goal.invariant-loop-place
invariant-loop-place l = Walks l.self.keys.now l.self.held.now l.roots l.tree l.key l.position l.bits l.place

abbrev pub decreases-loop-place : goal.decreases-loop-place
decreases-loop-place l = length l.tree - l.place
