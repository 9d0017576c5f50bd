-- The loop that sums squares, one a turn.
use mathlib.Core.Path.{◌≡◌, refl, sym, ap, ◌∙◌}
use mathlib.Core.List.{List}
use Prim.Native.Nat.{ℕ, ◌+◌, ◌≤◌, ◌<◌}
use native.Mathlib.Numerals.{add-one}
use native.Mathlib.Omega.{arith}
use lib.ListN.{length, take, get_or}
use lib.Seq.{take_all}
use lib.Ieee.{Float, nan, binary32, of_bits}
use Rattle.pattern.specs.Binary32.{◌⊕◌, ◌⊗◌, sum_from, sum_squares}
use Rattle.pattern.proofs.Sums.{sum-next}

-- the squares of the first i entries are in the sum
pub record Squares (xs : List Float) (acc : Float) (i : ℕ) : Type 0 where
  pub within : i ≤ length xs
  pub total : acc ≡ sum_squares (take i xs)

pub squares-none : (xs : List Float) → Squares xs (of_bits binary32 0) 0
unfolding sum_from of_bits
squares-none xs = record { within = omega arith; total = refl }

module _ (xs : List Float) (acc : Float) (i : ℕ) (inv : Squares xs acc i) where
  pub squares-next : i < length xs → Squares xs (acc ⊕ get_or xs i nan ⊗ get_or xs i nan) (i + 1)
  squares-next h = record { within = omega arith; total = rw (inv.total, add-one i) (sym (sum-next (λ (x : Float). x ⊗ x) xs i nan h)) }

  pub squares-all : length xs ≤ i → acc ≡ sum_squares xs
  squares-all h = inv.total ∙ ap (λ ys. sum_squares ys) (take_all i xs h)
