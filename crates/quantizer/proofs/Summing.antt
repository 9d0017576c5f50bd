-- Values coded one after the other, with the sum of a table's entries at their codes; and the table of squares for it.
use mathlib.Core.Path.{◌≡◌, refl, sym, ap, ap₂, subst, ◌∙◌}
use mathlib.Core.Bool.{true, false}
use mathlib.Core.List.{List, [], ◌∷◌, map}
use Prim.Native.Nat.{ℕ, ◌+◌, ◌≤◌, ◌<◌}
use native.Mathlib.Numerals.{add-one}
use native.Mathlib.Omega.{arith}
use lib.Dec.{T, leb, lit≤}
use lib.ListN.{length, get_or, set, take, length-set, length-map, get_or-map}
use lib.Seq.{take_all}
use lib.Ieee.{Float, nan, binary32, of_bits}
use Rattle.lists.specs.Lists.{over}
use Rattle.lists.proofs.Laws.{get_d_default, begun, begun-next, begun_all}
use Rattle.pattern.specs.Binary32.{◌⊕◌, ◌⊗◌, +0, sum_from, sum_of, sum_squares}
use Rattle.pattern.proofs.Sums.{sum-next}
use Rattle.lloyd.specs.Quantizer.{quantized, centroid_at, decoded, quantizable, coded_into, sum_at, coded_squares}
use Rattle.lloyd.proofs.Sound.{both}
use Rattle.lloyd.proofs.Quantized.{quantized-le}

-- the first i values are coded, and the table's entries at their codes are in the sum
pub record Coding (table boundaries xs : List Float) (start : List ℕ) (i : ℕ) (codes : List ℕ) (acc : Float) : Type 0 where
  pub within : i ≤ length xs
  pub same : length codes ≡ length start
  pub places : codes ≡ begun (map (quantized boundaries) xs) start i
  pub total : acc ≡ sum_at table boundaries (take i xs)

pub coding-none : (table boundaries xs : List Float) (start : List ℕ) → Coding table boundaries xs start 0 start (of_bits binary32 0)
unfolding sum_at sum_from of_bits
coding-none table boundaries xs start = record { within = omega arith; same = refl; places = refl; total = refl }

module _ (table boundaries xs : List Float) (start : List ℕ) (i : ℕ) (codes : List ℕ) (acc : Float) (inv : Coding table boundaries xs start i codes acc) where
  pub coding-next : i < length xs → length xs ≤ length start → length boundaries < length table → (code : ℕ) → code ≡ quantized boundaries (get_or xs i nan) →
      Coding table boundaries xs start (i + 1) (set codes i code) (acc ⊕ get_or table code nan)
  unfolding sum_at
  coding-next h room long code e =
      let q = quantized boundaries in
      let x = get_or xs i nan in
      let entry : get_or table code nan ≡ centroid_at table (q x) = get_d_default table code nan +0 (omega (arith, quantized-le boundaries x)) ∙ ap (centroid_at table) e in
      record {
        within = omega arith;
        same = length-set codes i code ∙ inv.same;
        places = begun-next (map q xs) start codes i (q nan) code (omega arith) (rw (length-map xs q) h) inv.places (e ∙ sym (get_or-map q xs i nan));
        total = rw (inv.total, entry, add-one i) (sym (sum-next (λ (y : Float). centroid_at table (q y)) xs i nan h));
      }

  pub coding-all : length xs ≤ i → (acc ≡ sum_at table boundaries xs) × (codes ≡ over (map (quantized boundaries) xs) start)
  coding-all h =
      let size = length-map xs (quantized boundaries) in (
        inv.total ∙ ap (sum_at table boundaries) (take_all i xs h),
        inv.places ∙ begun_all (map (quantized boundaries) xs) start i (rw size inv.within) (rw size h),
      )

-- ---- the table of squares

abbrev square_at : List Float → ℕ → Float
square_at centroids k = centroid_at centroids k ⊗ centroid_at centroids k

pub squares-sum : (centroids table boundaries xs : List Float) → ((k : ℕ) → k ≤ length boundaries → centroid_at table k ≡ square_at centroids k) →
    sum_at table boundaries xs ≡ sum_squares (decoded centroids (map (quantized boundaries) xs))
unfolding sum_at decoded
squares-sum centroids table boundaries xs h = ap sum_of (go xs)
  where
    go : (xs : List Float) → map (λ x. centroid_at table (quantized boundaries x)) xs ≡ map (λ x. x ⊗ x) (map (centroid_at centroids) (map (quantized boundaries) xs))
    go [] = refl
    go (x ∷ xs) = ap₂ (λ (y : Float) (ys : List Float). y ∷ ys) (h (quantized boundaries x) (quantized-le boundaries x)) (go xs)

-- ---- the whole call

module _ (boundaries centroids xs : List Float) (codes : List ℕ) where
  pub not-codable : quantizable (length boundaries) (length xs) (length codes) ≡ false →
      (of_bits binary32 0 ≡ coded_squares boundaries centroids xs codes) × (codes ≡ coded_into boundaries xs codes)
  unfolding coded_into coded_squares of_bits
  not-codable e = (rw e, rw e)

  pub coded-all : quantizable (length boundaries) (length xs) (length codes) ≡ true → (table : List Float) (r : Float) (next : List ℕ) →
      ((k : ℕ) → k ≤ length boundaries → centroid_at table k ≡ square_at centroids k) → r ≡ sum_at table boundaries xs → next ≡ over (map (quantized boundaries) xs) codes →
      (r ≡ coded_squares boundaries centroids xs codes) × (next ≡ coded_into boundaries xs codes)
  unfolding coded_into coded_squares
  coded-all e table r next squares sums written = (rw e (sums ∙ squares-sum centroids table boundaries xs squares), rw e written)

pub codable-of : (boundaries values places : ℕ) → quantizable boundaries values places ≡ true → (boundaries ≤ 255) × (values ≤ places)
unfolding quantizable
codable-of boundaries values places e =
    let b = both (leb boundaries 255) (leb values places) (subst T (sym e) tt) in
    (lit≤ b.0, lit≤ b.1)
