-- Document 01, "keys found by scanning": the key of a slot, by the lent arrays of keys.
-- An entry past the end of its array counts as in the index's rows: no key, word 0.
use Rattle.std.specs.Prelude.{Bool, false, cond, ◌&&◌, List, ℕ, get_or, eqb}
use Rattle.std.proofs.Math.Option.{Option, none, some}

unfoldable pub key_at : (keys : List ℕ) → (keyed : List Bool) → (slot : ℕ) → Option ℕ
key_at keys keyed i = cond (get_or keyed i false) (some (get_or keys i 0)) none

-- whether it is this one
abbrev pub slot_has : (keys : List ℕ) → (keyed : List Bool) → (key slot : ℕ) → Bool
slot_has keys keyed j i = get_or keyed i false && eqb (get_or keys i 0) j
