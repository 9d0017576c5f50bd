-- Scales of version 1, four bytes each, and what they become: 02, request 07, "scales rounded to halves".
use Rattle.std.specs.Prelude.{Bool, not, cond, ◌&&◌, ◌||◌, List, map, ℕ, ◌*◌, ◌/◌, min, length, take, drop, eqb, ltb}
use Rattle.lists.specs.Lists.{tab, joined}
use Rattle.lists.specs.Keep.{count}
use Rattle.half.specs.Binary.{unsigned, infinity}
use Rattle.half.specs.Half.{narrowed, widened}
use Rattle.index.specs.File.{le_bytes}
use Rattle.index.specs.Read.{little_endian}

-- ---- one scale

-- the pattern that it is read as after it was rounded to a half
abbrev pub rounded : ℕ → ℕ
rounded x = widened (narrowed x)

abbrev pub nan_pattern : ℕ → Bool
nan_pattern x = ltb (infinity 23 8) (unsigned 23 8 x)

abbrev pub zero_pattern : ℕ → Bool
zero_pattern x = eqb (unsigned 23 8 x) 0

-- patterns of numbers have one value where they are the same, or both zero (IEEE 754-2019, 5.11)
abbrev pub same_value : (x y : ℕ) → Bool
same_value x y = eqb x y || (zero_pattern x && zero_pattern y)

-- "how many scales changed value .., a NaN being counted if its bits don't survive"
unfoldable pub changes : ℕ → Bool
changes x = not (cond (nan_pattern x) (eqb (rounded x) x) (same_value (rounded x) x))

-- ---- the scales of some bytes: as many as there are whole

unfoldable pub scales_in : (bytes : List ℕ) → List ℕ
scales_in bytes = tab (λ i. little_endian 4 (drop (i * 4) bytes)) (length bytes / 4)

abbrev pub halves_of : (bytes : List ℕ) → List ℕ
halves_of bytes = joined (map (λ x. le_bytes 2 (narrowed x)) (scales_in bytes))

abbrev pub changes_in : (bytes : List ℕ) → ℕ
changes_in bytes = count changes (scales_in bytes)

-- as many scales as are whole and have room for their halves
abbrev pub with_room : (bytes : List ℕ) → (room : ℕ) → List ℕ
with_room bytes room = take (min (length bytes / 4) (room / 2) * 4) bytes
