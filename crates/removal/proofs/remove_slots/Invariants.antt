use mathlib.Core.Path.{◌≡◌}
use Prim.Native.Nat.{◌≤◌}
use Rattle.slot_keys.specs.Has.{slot_has}
use Rattle.removal.specs.Dead.{lent_marks, dead_where}
use Rattle.removal.proofs.Loops.{SameReach}
use Rattle.removal.proofs.remove_slots.Given as goal

-- `removal::remove_slots` meets its contract: of the slots before i, those of the key are dead.
abbrev pub invariant-loop-i : goal.invariant-loop-i
invariant-loop-i l =
    let a = lent_marks l.initial.keyed l.initial.held l.initial.alive in
    let b = lent_marks l.keyed l.held l.alive in
    (l.i ≤ l.n) × SameReach a b × (b ≡ dead_where (slot_has l.keys l.initial.keyed l.key) l.i a)
