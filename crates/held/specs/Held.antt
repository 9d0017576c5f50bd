-- Document 01, "keys found by scanning": which slots hold a key, by the lent arrays of keys.
-- On a record and arrays that fit these are the index's `held_by` and `slot_holding`: laws of proofs/Value.antt.
-- An entry past the end of its array counts as in the index's rows: no key, word 0, position 0.
use Rattle.std.specs.Prelude.{Bool, ◌&&◌, List, ℕ, get_or, eqb}
use Rattle.lists.specs.Lists.{below}
use Rattle.lists.specs.Keep.{keep, count}
use Rattle.slot_keys.specs.Has.{slot_has}

module _ (keys : List ℕ) (keyed : List Bool) where
  -- how many of the first n slots have the key
  abbrev pub held_count : (n key : ℕ) → ℕ
  held_count n j = count (slot_has keys keyed j) (below n)

  module _ (held : List ℕ) where
    abbrev pub slot_holds : (key position slot : ℕ) → Bool
    slot_holds j p i = slot_has keys keyed j i && eqb (get_or held i 0) p

    -- the first of the first n slots that holds the position of the key; n where none does
    abbrev pub held_slot : (n key position : ℕ) → ℕ
    held_slot n j p = get_or (keep (slot_holds j p) (below n)) 0 n
