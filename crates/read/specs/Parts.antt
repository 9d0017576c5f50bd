-- The tests that come after the lent arrays' room.
use Rattle.std.specs.Prelude.{Bool, not, ◌||◌, List, [], ◌∷◌, map, ℕ, length, ltb, eqb}
use Rattle.index.specs.Step.{first_of, when}
use Rattle.index.specs.Read.{dim_in, count_in, well_keyed, first_length, second_length, stages_in, second_in, table_in, table_length, years_in, years_length, entries_in}

-- 02, Req 06: "A year block cut short is 14, with the rest."
abbrev pub rest_short : (file : List ℕ) → Bool
rest_short file =
    ltb (length (second_in file)) (second_length file) || ltb (length (table_in file)) (table_length file) || ltb (length (years_in file)) (years_length file)

abbrev pub keys_sound : (file : List ℕ) → Bool
keys_sound file = well_keyed (count_in file) (map (λ e. e.slot) (entries_in file))

-- "14 (first block), 17 for dim 0, 14 (rest), 19"
unfoldable pub body_fault : (file : List ℕ) → ℕ
body_fault file =
    first_of
    (when (ltb (length (stages_in file)) (first_length file)) 14 ∷ when (eqb (dim_in file) 0) 17 ∷ when (rest_short file) 14 ∷ when (not (keys_sound file)) 19 ∷ [])
