-- Whether block, table and query fit one another: by the program's tests, and what follows.
use mathlib.Core.Path.{◌≡◌, sym, ◌∙◌}
use mathlib.Core.Bool.{Bool, true, false, ◌&&◌}
use mathlib.Core.List.{List}
use Prim.Native.Nat.{ℕ, ◌*◌, ◌/◌, ◌%◌, ◌^◌, ◌≤◌}
use native.Mathlib.Nat.{one-mul, mod-eq_of_lt, lt_of_le_of_lt}
use native.Mathlib.Omega.{arith}
use borrow.Author.Tests.{le-leb, eq-eqb, leb-true, eqb-true}
use lib.Dec.{leb, eqb, lit<}
use lib.Pow.{pow-lt}
use lib.ListN.{length}
use lib.Ieee.{Float, binary32, of_bits}
use Rattle.lists.proofs.Tests.{both}
use Rattle.codes.specs.Packing.{bytes_per_vector}
use Rattle.codes.specs.Writing.{at_width}
use Rattle.codes.proofs.Tests.{at_width_lem}
use Rattle.score.specs.Score.{fitting, of_block, block_products}

-- ---- the last test

pub by_length : (w centroids block query bytes : ℕ) → 4 ≤ w → w ≤ 6 → centroids ≡ 1 * 2 ^ w % 2 ^ 64 → bytes ≡ at_width w (bytes_per_vector w query)
    → eqb block bytes ≡ fitting w centroids block query
unfolding fitting
by_length w centroids block query bytes from to t b =
    let levels : 1 * 2 ^ w % 2 ^ 64 ≡ 2 ^ w = rw (one-mul (2 ^ w)) (mod-eq_of_lt (pow-lt {j = 64} (lt_of_le_of_lt to (lit< tt)))) in
    rw (le-leb 4 w from, le-leb w 6 to, eq-eqb centroids (2 ^ w) (t ∙ levels), b, at_width_lem {w = w} (bytes_per_vector w query) (record { some = omega arith; most = omega arith }))

-- ---- what follows

pub record Fit (w centroids block query : ℕ) : Type 0 where
  pub from : 4 ≤ w
  pub to : w ≤ 6
  pub table : centroids ≡ 2 ^ w
  pub size : block ≡ bytes_per_vector w query

pub fits : (w centroids block query : ℕ) (r : Bool) → r ≡ fitting w centroids block query → r ≡ true → Fit w centroids block query
unfolding fitting
fits w centroids block query r is n =
    let all = both (leb 4 w && leb w 6) (eqb centroids (2 ^ w) && eqb block (bytes_per_vector w query)) (sym is ∙ n) in
    let width = both (leb 4 w) (leb w 6) all.0 in
    let sizes = both (eqb centroids (2 ^ w)) (eqb block (bytes_per_vector w query)) all.1 in
    record { from = leb-true 4 w width.0; to = leb-true w 6 width.1; table = eqb-true centroids (2 ^ w) sizes.0; size = eqb-true block (bytes_per_vector w query) sizes.1 }

-- at 4 bits every pair of the query's entries has its byte
pub at-four : (w block query : ℕ) → w ≡ 4 → block ≡ bytes_per_vector w query → query / 2 ≤ block
unfolding bytes_per_vector
at-four w block query e s = omega (arith, s, rw e at s)

module _ (sums : List Float → Float) (w : ℕ) (centroids : List Float) (block : List ℕ) (query : List Float) (r : Bool) (is : r ≡ fitting w (length centroids) (length block) (length query)) where
  pub summed : r ≡ true → sums (block_products w centroids block query) ≡ of_block sums w centroids block query
  unfolding of_block
  summed n = rw (sym is ∙ n)

  pub misfit : r ≡ false → of_bits binary32 0 ≡ of_block sums w centroids block query
  unfolding of_block of_bits
  misfit n = rw (sym is ∙ n)
