-- 02, Req 06: "Whole-key removal tests every slot of the key before touching any", by the lent arrays of keys and years.
-- On a record and arrays that fit this is the index's `any_must_stay`: law `key-stays` of proofs/Stays.antt.
use Rattle.std.specs.Prelude.{Bool, ◌&&◌, List, ℕ, get_or}
use Rattle.std.specs.List.{list_any, range_with_len}
use Rattle.index.specs.Step.{must_stay}
use Rattle.slot_keys.specs.Has.{slot_has}

abbrev pub key_must_stay : (keys : List ℕ) → (keyed : List Bool) → (years : List ℕ) → (n key present : ℕ) → Bool
key_must_stay keys keyed years n j present = list_any (λ i. slot_has keys keyed j i && must_stay present (get_or years i 0)) (range_with_len 0 n)
