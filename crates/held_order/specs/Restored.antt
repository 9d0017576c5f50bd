-- Rising held order by the lent arrays of keys. That this is the index's `rising` on the slots that a compaction keeps is a law of the crate compact.
use Rattle.std.specs.Prelude.{Bool, false, cond, ◌&&◌, List, ℕ, length, get_or, leb}
use Rattle.lists.specs.Lists.{tab, over}
use Rattle.held.specs.Held.{held_count}

-- how many lower slots have the slot's key; 0 without a key
abbrev pub rising_position : (keys : List ℕ) → (keyed : List Bool) → (slot : ℕ) → ℕ
rising_position keys keyed i = cond (get_or keyed i false) (held_count keys keyed i (get_or keys i 0)) 0

-- The positions of the first n slots. Nothing changes where there are no places for so many, or more than an index has.
unfoldable pub restored : (keys : List ℕ) → (keyed : List Bool) → (n : ℕ) → (held : List ℕ) → List ℕ
restored keys keyed n held = cond (leb n 65536 && leb n (length held)) (over (tab (rising_position keys keyed) n) held) held
