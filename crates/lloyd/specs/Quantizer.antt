-- Codes and centroids over any tables.
use Rattle.std.specs.Prelude.{ℕ, ◌+◌, Bool, ◌&&◌, cond, List, [], ◌∷◌, map, leb, length, get_or, Float}
use Rattle.std.specs.Float.Ieee.{lt}
use Rattle.lists.specs.Lists.{over}
use Rattle.pattern.specs.Binary32.{+0, sum_of, sum_squares}

-- "The code is the number of boundaries below the value: equal takes the lower code, NaN gives 0" (document 01, lloyd.rs). `lt` is the comparison of
-- IEEE 754 (5.11), by which no value is below an equal one, and none below a NaN.
unfoldable pub quantized : List Float → Float → ℕ
quantized [] x = 0
quantized (b ∷ bs) x = cond (lt b x) 1 0 + quantized bs x

-- the centroid of a code, and +0 where there is none
abbrev pub centroid_at : List Float → ℕ → Float
centroid_at centroids code = get_or centroids code +0

-- the centroid that each code stands for
unfoldable pub decoded : (centroids : List Float) → (codes : List ℕ) → List Float
decoded centroids codes = map (centroid_at centroids) codes

-- A code over so many boundaries fits a byte, and there is a place for each value.
unfoldable pub quantizable : (boundaries values places : ℕ) → Bool
quantizable boundaries values places = leb boundaries 255 && leb values places

-- The codes of many values, in the first places of `codes`. Nothing is written where a code might not fit a byte, or where the places are too few.
unfoldable pub coded_into : List Float → List Float → List ℕ → List ℕ
unfolding quantized over
coded_into boundaries xs codes = cond (quantizable (length boundaries) (length xs) (length codes)) (over (map (quantized boundaries) xs) codes) codes

-- the sum, in index order, of the entries that a table has for the codes of the values
unfoldable pub sum_at : (table boundaries xs : List Float) → Float
sum_at table boundaries xs = sum_of (map (λ x. centroid_at table (quantized boundaries x)) xs)

-- The sum of the squares of the centroids of the codes, +0 where nothing is written.
unfoldable pub coded_squares : (boundaries centroids xs : List Float) → (codes : List ℕ) → Float
coded_squares boundaries centroids xs codes =
    cond (quantizable (length boundaries) (length xs) (length codes)) (sum_squares (decoded centroids (map (quantized boundaries) xs))) +0
