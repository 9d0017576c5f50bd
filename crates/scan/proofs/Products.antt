-- Products by the table of pairs are those by the centroids, at any width.
use mathlib.Core.Path.{◌≡◌, refl, sym, ap, ap₂, ◌∙◌}
use mathlib.Core.List.{List}
use Prim.Native.Nat.{ℕ, zero, suc, ◌+◌, ◌*◌, ◌/◌, ◌%◌, ◌^◌, ◌<◌}
use native.Mathlib.Nat.{mod-lt, add-zero}
use native.Mathlib.Omega.{arith}
use lib.Arith.{digits_div, digits_mod, mod-mul}
use lib.Pow.{pow-add, pow_pos}
use lib.ListN.{length, get_or}
use lib.Seq.{ext_get_or}
use lib.Ieee.{Float, nan}
use Rattle.pattern.specs.Binary32.{◌⊕◌, ◌⊗◌}
use Rattle.lists.specs.Lists.{tab}
use Rattle.lists.proofs.Laws.{length-tab, get_or-tab}
use Rattle.digits.specs.Digits.{number, Below}
use Rattle.digits.proofs.Places.{div-pow-add}
use Rattle.codes.specs.Packing.{code_at}
use Rattle.codes.proofs.Packing.{code_at-lt}
use Rattle.score.specs.Score.{block_products, byte_terms}
use Rattle.score.proofs.Products.{length-products, product_at, length-terms, byte-term}
use Rattle.scan.specs.Pairs.{Paired, Halved, byte_term, pair_products}

-- ---- the two codes of pair m

module _ (w : ℕ) (block : List ℕ) (m : ℕ) where
  abbrev from : ℕ
  from = number 256 block / 2 ^ ((w + w) * m)

  parts : code_at (w + w) block m ≡ from / 2 ^ w % 2 ^ w * 2 ^ w + from % 2 ^ w
  unfolding code_at
  parts = ap (λ (z : ℕ). from % z) (pow-add 2 w w) ∙ mod-mul from (pow_pos w) (pow_pos w)

  pub pair-low : code_at (w + w) block m % 2 ^ w ≡ code_at w block (m * 2)
  unfolding code_at
  pair-low =
      ap (λ (z : ℕ). z % 2 ^ w) parts ∙ digits_mod (from / 2 ^ w % 2 ^ w) (mod-lt from (pow_pos w))
      ∙ ap (λ (z : ℕ). number 256 block / 2 ^ z % 2 ^ w) {x = (w + w) * m} {y = w * (m * 2)} (omega arith)

  pub pair-high : code_at (w + w) block m / 2 ^ w ≡ code_at w block (m * 2 + 1)
  unfolding code_at
  pair-high =
      ap (λ (z : ℕ). z / 2 ^ w) parts ∙ digits_div (from / 2 ^ w % 2 ^ w) (mod-lt from (pow_pos w))
      ∙ ap (λ (z : ℕ). z % 2 ^ w) (div-pow-add 2 (number 256 block) ((w + w) * m) w)
      ∙ ap (λ (z : ℕ). number 256 block / 2 ^ z % 2 ^ w) {x = (w + w) * m + w} {y = w * (m * 2 + 1)} (omega arith)

  pub pair_lt : code_at (w + w) block m < 2 ^ w * 2 ^ w
  pair_lt = rw (← pow-add 2 w w) (code_at-lt (w + w) block m)

-- ---- the table at a code

module _ (w : ℕ) (cs pairs : List Float) (p : Paired w cs pairs (2 ^ w * 2 ^ w)) (block : List ℕ) where
  at-even : (m : ℕ) → get_or pairs (code_at (w + w) block m * 2) nan ≡ get_or cs (code_at w block (m * 2)) nan
  at-even m = p.low (code_at (w + w) block m) (pair_lt w block m) ∙ ap (λ (z : ℕ). get_or cs z nan) (pair-low w block m)

  at-odd : (m : ℕ) → get_or pairs (code_at (w + w) block m * 2 + 1) nan ≡ get_or cs (code_at w block (m * 2 + 1)) nan
  at-odd m = p.high (code_at (w + w) block m) (pair_lt w block m) ∙ ap (λ (z : ℕ). get_or cs z nan) (pair-high w block m)

  at_code : (i : ℕ) → get_or pairs (code_at (w + w) block (i / 2) * 2 + i % 2) nan ≡ get_or cs (code_at w block i) nan
  at_code i = go (i % 2) refl (mod-lt i (omega arith))
    where
      go : (r : ℕ) → i % 2 ≡ r → r < 2 → get_or pairs (code_at (w + w) block (i / 2) * 2 + r) nan ≡ get_or cs (code_at w block i) nan
      go zero e l =
          ap (λ (z : ℕ). get_or pairs z nan) (add-zero (code_at (w + w) block (i / 2) * 2)) ∙ at-even (i / 2)
          ∙ ap (λ (z : ℕ). get_or cs (code_at w block z) nan) {x = i / 2 * 2} {y = i} (omega arith)
      go (suc zero) e l = at-odd (i / 2) ∙ ap (λ (z : ℕ). get_or cs (code_at w block z) nan) {x = i / 2 * 2 + 1} {y = i} (omega arith)
      go (suc (suc r)) e l = absurd (omega arith)

  -- so the products are the same
  pub pair-products : (query : List Float) → length cs ≡ 2 ^ w → pair_products w pairs query block ≡ block_products w cs block query
  unfolding pair_products
  pair-products query e =
      ext_get_or nan _ _ (length-tab _ (length query) ∙ sym (length-products w cs block query))
      (λ i h.
      let l : i < length query = omega (arith, length-tab (λ i. get_or query i nan ⊗ get_or pairs (code_at (w + w) block (i / 2) * 2 + i % 2) nan) (length query)) in
      get_or-tab _ (length query) i nan l ∙ ap (λ (x : Float). get_or query i nan ⊗ x) (at_code i) ∙ product_at w cs block query i e l)

-- ---- what the bytes add at 4 bits

module _ (cs pairs query evens odds : List Float) (p : Paired 4 cs pairs 256) (q : Halved query evens odds (length query / 2)) where
  pub byte-terms : (block : List ℕ) → length cs ≡ 16 → Below 256 block → length block ≡ length query / 2
      → tab (byte_term evens odds pairs block) (length block) ≡ byte_terms cs block query
  unfolding byte_term
  byte-terms block e bytes size =
      ext_get_or nan _ _ (length-tab _ (length block) ∙ size ∙ sym (length-terms cs block query))
      (λ i h.
      let l : i < length query / 2 = omega (arith, length-tab (byte_term evens odds pairs block) (length block)) in
      get_or-tab _ (length block) i nan (omega arith)
      ∙ ap₂ ◌⊕◌ (ap₂ ◌⊗◌ (q.even i l) (p.low (get_or block i 0) (bytes i))) (ap₂ ◌⊗◌ (q.odd i l) (p.high (get_or block i 0) (bytes i)))
      ∙ byte-term cs block query i e bytes l)
