-- Running sums in lanes, and the brackets that add them up (document 01, store.rs: "eight running sums", "four sums by index modulo 4", "Addition follows the
-- Rust's brackets").
use Rattle.std.specs.Prelude.{List, [], ◌∷◌, ℕ, zero, suc, ◌%◌, cond, eqb, get_or, Float}
use Rattle.pattern.specs.Binary32.{◌⊕◌, +0, sum_of}
use Rattle.lists.specs.Lists.{tab}

-- the terms whose index modulo m is j; the first of the list has the index i
unfoldable pub in_lane : (m j i : ℕ) → List Float → List Float
in_lane m j i [] = []
in_lane m j i (x ∷ xs) = cond (eqb (i % m) j) (x ∷ in_lane m j (suc i) xs) (in_lane m j (suc i) xs)

-- m running sums, that of lane j being of its terms in index order, from +0
unfoldable pub lanes : ℕ → List Float → List Float
lanes m terms = tab (λ j. sum_of (in_lane m j 0 terms)) m

-- neighbours added: the entries 0 and 1, 2 and 3, and on. A last entry without a neighbour is left out.
unfoldable pub pair_sums : List Float → List Float
pair_sums [] = []
pair_sums (x ∷ []) = []
pair_sums (x ∷ y ∷ zs) = (x ⊕ y) ∷ pair_sums zs

-- the Rust's brackets: neighbours are added, and their sums, and on, until one sum of 2 ^ k is left
unfoldable pub bracketed : ℕ → List Float → Float
bracketed zero xs = get_or xs 0 +0
bracketed (suc k) xs = bracketed k (pair_sums xs)
