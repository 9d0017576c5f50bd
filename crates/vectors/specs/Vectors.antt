-- A vector's refusals, and its entries over a number. Document 01, store.rs: "Encoding reads the first working_dim entries only; later ones may be NaN.
-- Squares are summed in index order, every operation rounded once".
use Rattle.std.specs.Prelude.{List, map, ℕ, zero, suc, cond, eqb, length, take, Float}
use Rattle.std.specs.Float.{nan, inf, fin}
use Rattle.pattern.specs.Binary32.{◌⊘◌, sum_squares}

-- 01, "Turned down": 2, "sum of squares zero or NaN"; 3, "sum infinite"; 0 where the vector is taken
abbrev pub sum_fault : Float → ℕ
sum_fault nan = 2
sum_fault (inf s) = 3
sum_fault (fin s zero e) = 2
sum_fault (fin s (suc m) e) = 0

-- 1, "vector length is not dim", comes before them
unfoldable pub vector_fault : (dim working : ℕ) → List Float → ℕ
vector_fault dim working v = cond (eqb (length v) dim) (sum_fault (sum_squares (take working v))) 1

-- each entry over the same number
unfoldable pub divided : Float → List Float → List Float
divided by xs = map (λ x. x ⊘ by) xs
