-- The loops that fill an array: with the centroids of codes, and with the entries of one list less those of another.
use mathlib.Core.Path.{◌≡◌, sym, ◌∙◌}
use mathlib.Core.List.{List}
use Prim.Native.Nat.{ℕ, ◌+◌, ◌<◌}
use lib.ListN.{length, get_or, set}
use lib.Ieee.{Float, nan}
use Rattle.lists.proofs.Entries.{length-zip, get_d_zip}
use Rattle.pattern.specs.Binary32.{◌⊖◌}
use Rattle.vectors.proofs.Filling.{Filled, filled_none, filled_next}
use Rattle.encode.specs.Encode.{differences}
use Rattle.lloyd.specs.Quantizer.{centroid_at, decoded}
use Rattle.lloyd.proofs.Decoded.{length-decoded, get_or-decoded}

-- ---- centroids

pub decoded-none : (centroids : List Float) (codes : List ℕ) (out : List Float) → length out ≡ length codes → Filled (decoded centroids codes) out out 0
decoded-none centroids codes out e = filled_none (decoded centroids codes) out (e ∙ sym (length-decoded centroids codes))

module _ (centroids : List Float) (codes : List ℕ) (start out : List Float) (i : ℕ) (inv : Filled (decoded centroids codes) start out i) where
  pub decoded-next : i < length codes → (x : Float) → x ≡ centroid_at centroids (get_or codes i 0) → Filled (decoded centroids codes) start (set out i x) (i + 1)
  decoded-next h x e =
      filled_next (decoded centroids codes) start out i inv (centroid_at centroids 0) (rw (length-decoded centroids codes) h) x (e ∙ sym (get_or-decoded centroids codes i))

-- ---- differences

pub length-differences : (xs ys : List Float) → length ys ≡ length xs → length (differences xs ys) ≡ length xs
unfolding differences
length-differences xs ys e = length-zip ◌⊖◌ xs ys e

pub differences-none : (xs ys out : List Float) → length ys ≡ length xs → length out ≡ length xs → Filled (differences xs ys) out out 0
differences-none xs ys out e f = filled_none (differences xs ys) out (f ∙ sym (length-differences xs ys e))

module _ (xs ys start out : List Float) (i : ℕ) (same : length ys ≡ length xs) (inv : Filled (differences xs ys) start out i) where
  pub differences-next : i < length xs → Filled (differences xs ys) start (set out i (get_or xs i nan ⊖ get_or ys i nan)) (i + 1)
  unfolding differences
  differences-next h =
      filled_next (differences xs ys) start out i inv nan (rw (length-differences xs ys same) h) _ (sym (get_d_zip ◌⊖◌ xs ys i nan nan nan h (rw same h)))
