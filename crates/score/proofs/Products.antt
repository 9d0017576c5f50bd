-- The products of a block, one by one, and the terms of a 4-bit block's bytes.
use mathlib.Core.Path.{◌≡◌, refl, sym, ap, ◌∙◌}
use mathlib.Core.List.{List, [], ◌∷◌}
use Prim.Native.Nat.{ℕ, zero, suc, ◌+◌, ◌*◌, ◌/◌, ◌%◌, ◌^◌, ◌≤◌, ◌<◌}
use native.Mathlib.Nat.{div-div-eq-div-mul}
use native.Mathlib.Omega.{arith}
use lib.Pow.{pow-add}
use lib.ListN.{length, get_or}
use lib.Ieee.{Float, nan}
use Rattle.pattern.specs.Binary32.{◌⊕◌, ◌⊗◌, +0}
use Rattle.lists.proofs.Laws.{get_d_default}
use Rattle.digits.specs.Digits.{number, Below}
use Rattle.digits.proofs.Places.{pow-mul}
use Rattle.digits.proofs.Number.{digit-number}
use Rattle.lloyd.specs.Quantizer.{centroid_at, decoded}
use Rattle.lloyd.proofs.Decoded.{length-decoded, get_or-decoded}
use Rattle.codes.specs.Packing.{code_at, unpacked}
use Rattle.codes.specs.Writing.{at_width}
use Rattle.codes.proofs.Tests.{at_width_lem}
use Rattle.codes.proofs.Packing.{length-unpacked, get_or-unpacked, code_at-lt}
use Rattle.score.specs.Lanes.{pair_sums}
use Rattle.score.specs.Score.{products, block_products, byte_terms}
use Rattle.lists.proofs.Entries.{length-zip, get_d_zip}

-- ---- products

module _ (w : ℕ) (centroids : List Float) (block : List ℕ) (query : List Float) where
  length-read : length (decoded centroids (unpacked w (length query) block)) ≡ length query
  length-read = length-decoded centroids (unpacked w (length query) block) ∙ length-unpacked w (length query) block

  pub length-products : length (block_products w centroids block query) ≡ length query
  unfolding block_products products
  length-products = length-zip ◌⊗◌ query _ length-read

  pub product_at : (i : ℕ) → length centroids ≡ 2 ^ w → i < length query
      → get_or query i nan ⊗ get_or centroids (code_at w block i) nan ≡ get_or (block_products w centroids block query) i nan
  unfolding block_products products
  product_at i e h =
      sym (get_d_zip ◌⊗◌ query _ i nan (centroid_at centroids 0) nan h (omega (arith, length-read))
      ∙ ap (λ (x : Float). get_or query i nan ⊗ x)
      (get_or-decoded centroids (unpacked w (length query) block) i
      ∙ ap (centroid_at centroids) (get_or-unpacked w (length query) block i h)
      ∙ get_d_default centroids (code_at w block i) +0 nan (rw e (code_at-lt w block i))))

-- ---- with the code as the program reads it, at a width that codes have

module _ (w : ℕ) (block : List ℕ) (i code : ℕ) (from : 0 < w) (to : w ≤ 8) (read : code ≡ at_width w (code_at w block i)) where
  read-code : code ≡ code_at w block i
  read-code = read ∙ at_width_lem (code_at w block i) (record { some = from; most = to })

  pub in_table : (levels : ℕ) → levels ≡ 2 ^ w → code < levels
  in_table levels e = rw (read-code, e) (code_at-lt w block i)

  pub product-read : (centroids query : List Float) → length centroids ≡ 2 ^ w → i < length query
      → get_or query i nan ⊗ get_or centroids code nan ≡ get_or (block_products w centroids block query) i nan
  product-read centroids query e h = rw read-code (product_at w centroids block query i e h)

-- ---- pairs

length_pairs : (xs : List Float) → length (pair_sums xs) ≡ length xs / 2
unfolding pair_sums
length_pairs [] = refl
length_pairs (x ∷ []) = refl
length_pairs (x ∷ y ∷ zs) = omega (arith, length_pairs zs)

get_or-pairs : (xs : List Float) (i : ℕ) → i < length xs / 2 → get_or xs (i * 2) nan ⊕ get_or xs (i * 2 + 1) nan ≡ get_or (pair_sums xs) i nan
unfolding pair_sums
get_or-pairs [] i h = absurd (omega arith)
get_or-pairs (x ∷ []) i h = absurd (omega arith)
get_or-pairs (x ∷ y ∷ zs) zero h = refl
get_or-pairs (x ∷ y ∷ zs) (suc i) h =
    let low : suc i * 2 ≡ suc (suc (i * 2)) = omega arith in
    let high : suc i * 2 + 1 ≡ suc (suc (i * 2 + 1)) = omega arith in
    rw (high, low) (get_or-pairs zs i (omega arith))

-- ---- the two codes of a byte

module _ (block : List ℕ) (bytes : Below 256 block) (i : ℕ) where
  pub low-code : code_at 4 block (i * 2) ≡ get_or block i 0 % 16
  unfolding code_at
  low-code =
      ap (λ (z : ℕ). number 256 block / z % 16) (ap (λ (z : ℕ). 2 ^ z) {x = 4 * (i * 2)} {y = 8 * i} (omega arith) ∙ pow-mul 2 8 i)
      ∙ omega (arith, digit-number 256 i block bytes)

  pub high-code : code_at 4 block (i * 2 + 1) ≡ get_or block i 0 / 16
  unfolding code_at
  high-code =
      ap (λ (z : ℕ). number 256 block / z % 16) (ap (λ (z : ℕ). 2 ^ z) {x = 4 * (i * 2 + 1)} {y = 8 * i + 4} (omega arith) ∙ pow-add 2 (8 * i) 4 ∙ ap (λ (z : ℕ). z * 16) (pow-mul 2 8 i))
      ∙ ap (λ (z : ℕ). z % 16) (sym (div-div-eq-div-mul (number 256 block) (256 ^ i) 16))
      ∙ omega (arith, digit-number 256 i block bytes)

pub length-terms : (centroids : List Float) (block : List ℕ) (query : List Float) → length (byte_terms centroids block query) ≡ length query / 2
length-terms centroids block query = length_pairs (block_products 4 centroids block query) ∙ ap (λ (n : ℕ). n / 2) (length-products 4 centroids block query)

-- what a byte adds
pub byte-term : (centroids : List Float) (block : List ℕ) (query : List Float) (i : ℕ) → length centroids ≡ 16 → Below 256 block → i < length query / 2
    → get_or query (i * 2) nan ⊗ get_or centroids (get_or block i 0 % 16) nan ⊕ get_or query (i * 2 + 1) nan ⊗ get_or centroids (get_or block i 0 / 16) nan
    ≡ get_or (byte_terms centroids block query) i nan
byte-term centroids block query i e bytes h =
    rw (← low-code block bytes i, ← high-code block bytes i, product_at 4 centroids block query (i * 2) e (omega arith), product_at 4 centroids block query (i * 2 + 1) e (omega arith))
    (get_or-pairs (block_products 4 centroids block query) i (rw (length-products 4 centroids block query) h))
