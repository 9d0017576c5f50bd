-- The loops over a block: eight bytes, or eight codes, more.
use mathlib.Core.Path.{◌≡◌, refl, sym, ap, ap₂, subst, ◌∙◌}
use mathlib.Core.List.{List}
use Prim.Native.Nat.{ℕ, ◌+◌, ◌*◌, ◌/◌, ◌%◌, ◌^◌, ◌≤◌, ◌<◌}
use native.Mathlib.Nat.{add_assoc, mul_comm}
use native.Mathlib.Omega.{arith}
use lib.ListN.{length, take, drop, get_or, replicate}
use lib.Ieee.{Float, nan, binary32, of_bits}
use Rattle.pattern.specs.Binary32.{◌⊕◌, sum_from}
use Rattle.lists.specs.Lists.{tab}
use Rattle.lists.proofs.Laws.{length-tab, get_or-tab, tab-ext}
use Rattle.digits.specs.Digits.{number, digits, Below}
use Rattle.digits.proofs.Digits.{get_or-digits}
use Rattle.digits.proofs.Places.{pow-mul}
use Rattle.codes.specs.Packing.{code_at}
use Rattle.codes.proofs.Packing.{group-code}
use Rattle.score.specs.Lanes.{in_lane, lanes}
use Rattle.score.proofs.Lanes.{InLanes, lanes-again, lanes_all}
use Rattle.scan.specs.Pairs.{byte_term, pair_products, word_product}
use Rattle.scan.specs.Groups.{byte_lanes, wide_lanes}

-- no term yet
pub lanes-none : (terms : List Float) → (InLanes 8 terms (replicate 8 (of_bits binary32 0)) 0) × (InLanes 4 terms (replicate 4 (of_bits binary32 0)) 0)
unfolding lanes in_lane sum_from of_bits
lanes-none terms = (record { blocks = refl; within = omega arith; sums = refl }, record { blocks = refl; within = omega arith; sums = refl })

-- ---- 4 bits

module _ (evens odds pairs : List Float) (block : List ℕ) where
  abbrev pub bytes_terms : List Float
  bytes_terms = tab (byte_term evens odds pairs block) (length block)

  pub bytes-again : (acc next : List Float) (g : ℕ) → InLanes 8 bytes_terms acc (g * 8) → g < length block / 8
      → next ≡ tab (λ j. get_or acc j nan ⊕ byte_term evens odds pairs block (g * 8 + j)) 8 → InLanes 8 bytes_terms next ((g + 1) * 8)
  bytes-again acc next g h l e =
      subst (λ (n : ℕ). InLanes 8 bytes_terms next n) {x = g * 8 + 8} {y = (g + 1) * 8} (omega arith)
      (lanes-again 8 bytes_terms acc (g * 8) h next (omega (arith, length-tab (byte_term evens odds pairs block) (length block)))
      (e ∙ tab-ext _ _ 8 (λ j k. ap (λ (x : Float). get_or acc j nan ⊕ x) (sym (get_or-tab (byte_term evens odds pairs block) (length block) (g * 8 + j) nan (omega arith))))))

  pub bytes-end : (acc : List Float) (g : ℕ) → InLanes 8 bytes_terms acc (g * 8) → length block % 8 ≡ 0 → length block / 8 ≤ g → acc ≡ byte_lanes evens odds pairs block
  unfolding byte_lanes
  bytes-end acc g h e l = lanes_all 8 bytes_terms acc (g * 8) h (omega (arith, length-tab (byte_term evens odds pairs block) (length block)))

-- ---- 5 and 6 bits: the width is a parameter

module _ (w : ℕ) (pairs query : List Float) (block : List ℕ) (bytes : Below 256 block) where
  abbrev pub terms : List Float
  terms = pair_products w pairs query block

  length-terms : length terms ≡ length query
  unfolding pair_products
  length-terms = length-tab _ (length query)

  -- a digit of the word of group g is a pair of the block
  word-pair : (g m : ℕ) → m < 4 → get_or (digits (2 ^ (w + w)) 4 (number 256 (take w (drop (w * g) block)))) m 0 ≡ code_at (w + w) block (4 * g + m)
  unfolding code_at
  word-pair g m l =
      get_or-digits (2 ^ (w + w)) 4 (number 256 (take w (drop (w * g) block))) m l
      ∙ ap (λ (z : ℕ). number 256 (take w (drop (w * g) block)) / z % 2 ^ (w + w)) (sym (pow-mul 2 (w + w) m))
      ∙ group-code (w + w) 4 w block g m (omega arith) l bytes

  word-product : (g k : ℕ) → k < 8 → 8 * g + k < length query
      → word_product (2 ^ (w + w)) pairs query (number 256 (take w (drop (w * g) block))) (8 * g) k ≡ get_or terms (8 * g + k) nan
  unfolding word_product pair_products
  word-product g k l h =
      let half : 4 * g + k / 2 ≡ (8 * g + k) / 2 = omega arith in
      let side : k % 2 ≡ (8 * g + k) % 2 = omega arith in
      sym (get_or-tab _ (length query) (8 * g + k) nan h
      ∙ rw (← half, ← side, ← word-pair g (k / 2) (omega arith)))

  -- four terms more, and four more
  module _ (acc next : List Float) (i : ℕ) (word : ℕ) where
    pub wide-again : InLanes 4 terms acc i → i % 8 ≡ 0 → i + 8 ≤ length query → word ≡ number 256 (take w (drop (w * (i / 8)) block))
        → next ≡ tab (λ j. get_or acc j nan ⊕ word_product (2 ^ (w + w)) pairs query word i j ⊕ word_product (2 ^ (w + w)) pairs query word i (4 + j)) 4
        → InLanes 4 terms next (i + 8)
    wide-again h eights l word-is e =
        let mid = tab (λ j. get_or acc j nan ⊕ get_or terms (i + j) nan) 4 in
        let once : InLanes 4 terms mid (i + 4) = lanes-again 4 terms acc i h mid (omega (arith, length-terms)) refl in
        let twice : InLanes 4 terms next (i + 4 + 4) = lanes-again 4 terms mid (i + 4) once next (omega (arith, length-terms)) (e ∙ tab-ext _ _ 4 (λ j k. both j k)) in
        subst (λ (n : ℕ). InLanes 4 terms next n) {x = i + 4 + 4} {y = i + 8} (omega arith) twice
      where
        at : (k : ℕ) → k < 8 → word_product (2 ^ (w + w)) pairs query word i k ≡ get_or terms (i + k) nan
        at k q =
            let i-is : i ≡ 8 * (i / 8) = omega arith in
            rw word-is
            (subst (λ (n : ℕ). word_product (2 ^ (w + w)) pairs query (number 256 (take w (drop (w * (i / 8)) block))) n k ≡ get_or terms (n + k) nan) (sym i-is)
            (word-product (i / 8) k q (omega arith)))

        both : (j : ℕ) → j < 4
            → get_or acc j nan ⊕ word_product (2 ^ (w + w)) pairs query word i j ⊕ word_product (2 ^ (w + w)) pairs query word i (4 + j)
            ≡ get_or (tab (λ j. get_or acc j nan ⊕ get_or terms (i + j) nan) 4) j nan ⊕ get_or terms (i + 4 + j) nan
        both j k =
            ap₂ ◌⊕◌
            (ap (λ (x : Float). get_or acc j nan ⊕ x) (at j (omega arith)) ∙ sym (get_or-tab (λ j. get_or acc j nan ⊕ get_or terms (i + j) nan) 4 j nan k))
            (at (4 + j) (omega arith) ∙ ap (λ (n : ℕ). get_or terms n nan) (sym (add_assoc i 4 j)))

  pub wide-end : (acc : List Float) (i : ℕ) → InLanes 4 terms acc i → length query ≤ i → acc ≡ wide_lanes w pairs query block
  unfolding wide_lanes
  wide-end acc i h l = lanes_all 4 terms acc i h (omega (arith, length-terms))

-- The sums of two blocks in one loop: what holds after g groups of eight entries.
module _ (w : ℕ) (pairs query : List Float) (one other : List ℕ) where
  pub record Summing (acc acc2 : List Float) (g : ℕ) : Type 0 where
    pub first : InLanes 4 (pair_products w pairs query one) acc (g * 8)
    pub second : InLanes 4 (pair_products w pairs query other) acc2 (g * 8)

  pub summing-none : Summing (replicate 4 (of_bits binary32 0)) (replicate 4 (of_bits binary32 0)) 0
  summing-none = record { first = (lanes-none (pair_products w pairs query one)).1; second = (lanes-none (pair_products w pairs query other)).1 }

  module _ (base : ℕ) (base-is : base ≡ 2 ^ (w + w)) where
    abbrev after : (acc : List Float) → (word g : ℕ) → List Float
    after acc word g = tab (λ j. get_or acc j nan ⊕ word_product base pairs query word (g * 8) j ⊕ word_product base pairs query word (g * 8) (4 + j)) 4

    step : (block : List ℕ) → Below 256 block → (acc next : List Float) (g word : ℕ) → InLanes 4 (pair_products w pairs query block) acc (g * 8) → g < length query / 8
        → word ≡ number 256 (take w (drop (g * w) block)) → next ≡ after acc word g → InLanes 4 (pair_products w pairs query block) next ((g + 1) * 8)
    step block b acc next g word h l f e =
        let place : g * w ≡ w * (g * 8 / 8) = mul_comm g w ∙ ap (λ (z : ℕ). w * z) {x = g} {y = g * 8 / 8} (omega arith) in
        subst (λ (n : ℕ). InLanes 4 (pair_products w pairs query block) next n) {x = g * 8 + 8} {y = (g + 1) * 8} (omega arith)
        (wide-again w pairs query block b acc next (g * 8) word h (omega arith) (omega arith) (f ∙ ap (λ (z : ℕ). number 256 (take w (drop z block))) place) (rw base-is at e))

    pub summing-more : (acc acc2 next next2 : List Float) (g word word2 : ℕ) → Summing acc acc2 g → g < length query / 8 → Below 256 one → Below 256 other
        → word ≡ number 256 (take w (drop (g * w) one)) → word2 ≡ number 256 (take w (drop (g * w) other)) → next ≡ after acc word g → next2 ≡ after acc2 word2 g → Summing next next2 (g + 1)
    summing-more acc acc2 next next2 g word word2 s l b b2 f f2 e e2 = record { first = step one b acc next g word s.first l f e; second = step other b2 acc2 next2 g word2 s.second l f2 e2 }

  pub summing-all : Below 256 one → Below 256 other → length query % 16 ≡ 0 → (acc acc2 : List Float) (g : ℕ) → Summing acc acc2 g → length query / 8 ≤ g →
      (acc ≡ wide_lanes w pairs query one) × (acc2 ≡ wide_lanes w pairs query other)
  summing-all b b2 e acc acc2 g s l = (wide-end w pairs query one b acc (g * 8) s.first (omega arith), wide-end w pairs query other b2 acc2 (g * 8) s.second (omega arith))

-- ---- how many sums there are

pub length-bytes : (evens odds pairs : List Float) (block : List ℕ) → length (byte_lanes evens odds pairs block) ≡ 8
unfolding byte_lanes lanes
length-bytes evens odds pairs block = simp length-tab

pub length-wide : (w : ℕ) (pairs query : List Float) (block : List ℕ) → length (wide_lanes w pairs query block) ≡ 4
unfolding wide_lanes lanes
length-wide w pairs query block = simp length-tab
