-- The loop that sums products, one a turn.
use mathlib.Core.Path.{◌≡◌, refl, sym, ap, ◌∙◌}
use mathlib.Core.List.{List}
use Prim.Native.Nat.{ℕ, ◌+◌, ◌≤◌, ◌<◌}
use native.Mathlib.Numerals.{add-one}
use native.Mathlib.Omega.{arith}
use lib.ListN.{length, take, get_or}
use lib.Seq.{take-suc, take_all}
use lib.Ieee.{Float, nan, binary32, of_bits}
use Rattle.lists.specs.Lists.{zip_with}
use Rattle.pattern.specs.Binary32.{◌⊕◌, ◌⊗◌, +0, sum_of, sum_from}
use Rattle.pattern.proofs.Sums.{sum-snoc}
use Rattle.encode.specs.Encode.{dot}
use Rattle.lists.proofs.Entries.{length-zip, get_d_zip}

-- the products of the first i entries of two lists are in the sum
pub record Products (xs ys : List Float) (acc : Float) (i : ℕ) : Type 0 where
  pub within : i ≤ length xs
  pub same : length ys ≡ length xs
  pub total : acc ≡ sum_of (take i (zip_with ◌⊗◌ xs ys))

pub products-none : (xs ys : List Float) → length ys ≡ length xs → Products xs ys (of_bits binary32 0) 0
unfolding sum_from of_bits
products-none xs ys e = record { within = omega arith; same = e; total = refl }

module _ (xs ys : List Float) (acc : Float) (i : ℕ) (inv : Products xs ys acc i) where
  pub products-next : i < length xs → Products xs ys (acc ⊕ get_or xs i nan ⊗ get_or ys i nan) (i + 1)
  products-next h =
      let ps = zip_with ◌⊗◌ xs ys in
      let l : i < length ps = rw (length-zip ◌⊗◌ xs ys inv.same) h in
      record {
        within = omega arith;
        same = inv.same;
        total = rw (inv.total, ← (get_d_zip ◌⊗◌ xs ys i nan nan nan h (rw inv.same h)), add-one i, take-suc ps i nan l) (sym (sum-snoc +0 (take i ps) (get_or ps i nan)));
      }

  pub products-all : length xs ≤ i → acc ≡ dot xs ys
  unfolding dot
  products-all h = inv.total ∙ ap sum_of (take_all i (zip_with ◌⊗◌ xs ys) (rw (length-zip ◌⊗◌ xs ys inv.same) h))
