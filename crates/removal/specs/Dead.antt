-- The arrays that a removal writes, and what it makes of them. The word that `keys` has at a dead slot stays, and counts for nothing.
use Rattle.std.specs.Prelude.{Bool, false, List, ℕ, set}
use Rattle.marks.specs.Live.{marks_in}
use Rattle.remarking.specs.Replaced.{replaced_where}

pub record SlotMarks : Type 0 where
  pub keyed : List Bool
  pub held : List ℕ
  pub alive : List ℕ

abbrev pub lent_marks : List Bool → List ℕ → List ℕ → SlotMarks
lent_marks a b c = record { keyed = a; held = b; alive = marks_in c }

-- a slot dead: no key, position 0, the mark 0
unfoldable pub dead_at : ℕ → SlotMarks → SlotMarks
dead_at i a = record { keyed = set a.keyed i false; held = set a.held i 0; alive = set a.alive i 0 }

-- so each of the first n slots that passes the test
unfoldable pub dead_where : (ℕ → Bool) → (n : ℕ) → SlotMarks → SlotMarks
dead_where p n a = record { keyed = replaced_where p n false false a.keyed; held = replaced_where p n 0 0 a.held; alive = replaced_where p n 0 0 a.alive }

-- a slot at another position of its key
unfoldable pub placed_at : (slot position : ℕ) → SlotMarks → SlotMarks
placed_at i p a = record { keyed = a.keyed; held = set a.held i p; alive = a.alive }
