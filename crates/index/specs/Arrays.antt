-- The nine lent arrays (document 01, "Rust forms that need another": "lent arrays of capacity length"). Eight of them stand here as they are lent. Of `alive`, which is lent
-- as words of 64 live marks, here stand the marks, one a slot (`marks_in`; they tell the words: law `marks-tell` of the crate marks).
--
-- An index of three slots in use, of four bytes a vector, in arrays that hold five:
--
--             slot 0        slot 1        slot 2      │ past the slots in use: kept by every call, but for live marks
--   codes   c c c c       c c c c       c c c c     │ . . . . . . . .
--   scales     s             s             s        │    .       .
--   keys       7             .             7        │    .       .          the word of an unkeyed or dead slot means nothing
--   keyed     true         false         true       │    .       .
--   held       0             0             1        │    .       .          key 7 holds slot 0 first, then slot 2
--   alive      1             0             1        │    0       0          slot 1 is dead; the marks past the slots in use are 0
--   years      1          2030            0        │    .       .          02, Req 06: "Each slot gains a 16-bit year"; that of a dead slot means nothing
--
-- and codes2, scales2 as codes, scales where the index is residual.
use Rattle.std.specs.Prelude.{Bool, List, ℕ}
use Rattle.marks.specs.Live.{marks_in, no_marks}

-- what they hold
pub record Arrays : Type 0 where
  pub codes : List ℕ
  pub scales : List ℕ
  pub keys : List ℕ
  pub keyed : List Bool
  pub held : List ℕ
  pub alive : List ℕ
  pub codes2 : List ℕ
  pub scales2 : List ℕ
  pub years : List ℕ

abbrev pub lent : List ℕ → List ℕ → List ℕ → List Bool → List ℕ → List ℕ → List ℕ → List ℕ → List ℕ → Arrays
lent a b c d e f g h i = record { codes = a; scales = b; keys = c; keyed = d; held = e; alive = marks_in f; codes2 = g; scales2 = h; years = i }

-- the same arrays with no slot marked as live
abbrev pub unmarked : Arrays → Arrays
unmarked a =
    record {
      codes = a.codes;
      scales = a.scales;
      keys = a.keys;
      keyed = a.keyed;
      held = a.held;
      alive = no_marks a.alive;
      codes2 = a.codes2;
      scales2 = a.scales2;
      years = a.years;
    }
