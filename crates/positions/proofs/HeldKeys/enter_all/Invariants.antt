use Prim.Native.Nat.{ℕ, ◌<◌}
use mathlib.Core.Path.{◌≡◌}
use lib.ListN.{length}
use Rattle.positions.specs.Lent.{keys_of}
use Rattle.positions.specs.Ordered.{New}
use Rattle.positions.specs.Tree.{Grown}
use Rattle.positions.proofs.HeldKeys.enter_all.Given as goal

-- The slots so far are in the tree, and each was new.
abbrev pub invariant-loop-slot : goal.invariant-loop-slot
invariant-loop-slot l = record {
  size : length l.tree ≡ length l.initial.tree;
  grown : Grown (keys_of l.self) l.roots l.slot l.tree;
  new : (j : ℕ) → j < l.slot → New (keys_of l.self) j;
}
