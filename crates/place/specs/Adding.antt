-- Which slot an adding call writes, by the lent arrays of keys, and whether that slot must stay: 01, store.rs: "`add_keyed` on a key with several slots overwrites the first held."
use Rattle.std.specs.Prelude.{Bool, false, ◌&&◌, List, ℕ, get_or, ltb, Option, Some, None}
use Rattle.index.specs.Arrays.{Arrays}
use Rattle.index.specs.State.{Mark, unkeyed, keyed}
use Rattle.index.specs.Step.{Item, Op, add, add_keyed, add_multi, must_stay}
use Rattle.held.specs.Held.{held_count, held_slot}
use Rattle.place.specs.declared.Adding.{Adding}
use Rattle.place.specs.declared.Spot.{Spot}

-- the call that each way of adding is
abbrev pub op_of : Adding → Item → (year : ℕ) → Op
op_of Adding.Unkeyed v y = add v y
op_of (Adding.Keyed k present) v y = add_keyed k v y present
op_of (Adding.Multi k) v y = add_multi k v y

-- the slot, its key and its position among the key's slots
abbrev pub spot : (slot : ℕ) → (key : Option (ℕ × ℕ)) → Spot
spot i k = record { slot = i; key = k }

-- n is the slot behind those in use
abbrev pub spot_of : Adding → Arrays → (n : ℕ) → Spot
spot_of Adding.Unkeyed a n = spot n None
spot_of (Adding.Keyed k present) a n = spot (held_slot a.keys a.keyed a.held n k 0) (Some (k, 0))
spot_of (Adding.Multi k) a n = spot n (Some (k, held_count a.keys a.keyed n k))

-- the mark of the slot when it is written; the word 0 stands for no key
abbrev pub mark_for : Option (ℕ × ℕ) → Mark
mark_for None = unkeyed 0
mark_for (Some k) = keyed k.0 k.1

abbrev pub mark_of_spot : Spot → Mark
mark_of_spot s = mark_for s.key

-- 02, Req 06: 21 for "a live slot that .. an overwrite would write", n being the slot behind those in use
abbrev pub barred : Adding → (years : List ℕ) → (n slot : ℕ) → Bool
barred Adding.Unkeyed ys n i = false
barred (Adding.Keyed k present) ys n i = ltb i n && must_stay present (get_or ys i 0)
barred (Adding.Multi k) ys n i = false
