-- The candidates of a cascade (document 01, store.rs, cascade): the r smallest (distance, slot) pairs among the live slots.
use Rattle.std.specs.Prelude.{Bool, ◌&&◌, ◌||◌, List, ℕ, leb, ltb, eqb}
use Rattle.lists.specs.Lists.{tab, below}
use Rattle.lists.specs.Keep.{bit, keep, count}
use Rattle.marks.specs.Live.{live_at}
use Rattle.padding.specs.Rotatable.{rotatable}

module _ (distance : ℕ → ℕ) (alive : List ℕ) (n : ℕ) where
  -- slot i stands before slot j: nearer, or as near with the lower number
  abbrev pub before : ℕ → ℕ → Bool
  before i j = ltb (distance i) (distance j) || (eqb (distance i) (distance j) && ltb i j)

  -- a live slot with fewer than r live ones before it
  unfoldable pub is_near : (r : ℕ) → ℕ → Bool
  is_near r j = live_at alive j && ltb (count (λ i. before i j) (keep (live_at alive) (below n))) r

  -- the marks of the first n slots: 1 for a candidate, 0 for any other
  unfoldable pub near_marks : (r : ℕ) → List ℕ
  near_marks r = tab (λ i. bit (is_near r i)) n

-- there are at most 65,536 slots and a mark for each, the codes have 4 bits, and the query can be rotated
unfoldable pub cascadable : (slots marks width working entries : ℕ) → Bool
cascadable slots marks width working entries = leb slots marks && (leb slots 65536 && (eqb width 4 && rotatable working entries 4096))
