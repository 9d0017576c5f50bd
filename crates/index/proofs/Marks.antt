-- The positions of a key's slots, on marks: the test of 13 holds of each slot just where each position is held once.
use mathlib.Core.Path.{◌≡◌, refl, sym, ap, ◌∙◌, subst}
use mathlib.Core.Bool.{Bool, true, false, ◌&&◌}
use mathlib.Core.List.{List, map, Memᴰ}
use mathlib.Core.Logic.{⊎_elim}
use Prim.Native.Nat.{ℕ, zero, suc, ◌+◌, ◌≤◌, ◌<◌}
use native.Mathlib.Nat.{eq-zero-or-pos, eq-or-lt_of_le, le_of_suc-le-suc}
use native.Mathlib.Omega.{arith}
use native.Mathlib.Decide.{dec_lt}
use lib.Dec.{T, ltb, eqb}
use borrow.Author.Tests.{ltb-true, eqb-true, lt-ltb, le-ltb, eq-eqb, ne_eqb}
use Rattle.lists.specs.Keep.{bit, count, Each}
use Rattle.lists.proofs.Keep.{each-mem, each_weaken, count_same, count-share, count_none, count_map}
use Rattle.lists.proofs.Front.{each-count}
use Rattle.lists.proofs.Tests.{and_left, and_right}
use Rattle.index.specs.State.{Mark, dead, unkeyed, keyed, is_live, mark_of, alive_of, has_key, key_word, position}
use Rattle.index.specs.Fit.{Row, of_key, of_key_at, positioned}
use Rattle.index.specs.Step.{holds, holds_at}
use Rattle.index.specs.Sound.{OnceEach}

-- ---- tests

pub bit-one : (b : Bool) → 0 < bit b → b ≡ true
bit-one true l = refl
bit-one false l = absurd (omega arith)

-- below h + 1 is below h, or h
pub below_suc : (p h : ℕ) → bit (ltb p (suc h)) ≡ bit (ltb p h) + bit (eqb p h)
below_suc p h =
    elim (dec_lt p h) [
      | yes l ↦ rw (lt-ltb p h l, lt-ltb p (suc h) (omega arith), ne_eqb p h (λ e. omega arith))
      | no l ↦
          ⊎_elim (λ e. rw (le-ltb p h (omega arith), eq-eqb p h (sym e), lt-ltb p (suc h) (omega arith)))
          (λ m. rw (le-ltb p h (omega arith), le-ltb p (suc h) (omega arith), ne_eqb p h (λ e. omega arith))) (eq-or-lt_of_le (above l))
    ]
  where
    above : (p < h → ⊥) → h ≤ p
    above l = omega arith

-- ---- the row of a mark

-- a slot is live where its mark is not 0
pub mark-live : (m : ℕ) (on : Bool) (k p : ℕ) → is_live (mark_of m on k p) ≡ ltb 0 m
mark-live zero on k p = refl
mark-live (suc m) true k p = sym (lt-ltb 0 (suc m) (omega arith))
mark-live (suc m) false k p = sym (lt-ltb 0 (suc m) (omega arith))

abbrev pub row_of : Mark → Row
row_of m = record { key = key_word m; keyed = has_key m; held = position m; alive = alive_of m }

row-key : (k : ℕ) (m : Mark) → of_key k (row_of m) ≡ holds k m
row-key k (dead u) = refl
row-key k (unkeyed u) = refl
row-key k (keyed j p) = refl

row-holds : (k i : ℕ) (m : Mark) → of_key_at k i (row_of m) ≡ holds_at k i m
row-holds k i (dead u) = refl
row-holds k i (unkeyed u) = refl
row-holds k i (keyed j p) = refl

module _ (ms : List Mark) where
  abbrev pub Positioned : Mark → Type 0
  Positioned m = positioned (map row_of ms) (row_of m) ≡ true

  count-key : (k : ℕ) → count (of_key k) (map row_of ms) ≡ count (holds k) ms
  count-key k = count_map row_of (of_key k) ms ∙ count_same (λ m. of_key k (row_of m)) (holds k) ms (each-mem (λ m. of_key k (row_of m) ≡ holds k m) ms (λ m e. row-key k m))

  count_at : (k i : ℕ) → count (of_key_at k i) (map row_of ms) ≡ count (holds_at k i) ms
  count_at k i = count_map row_of (of_key_at k i) ms ∙ count_same (λ m. of_key_at k i (row_of m)) (holds_at k i) ms (each-mem (λ m. of_key_at k i (row_of m) ≡ holds_at k i m) ms (λ m e. row-holds k i m))

  keyed-test : (k p : ℕ) → positioned (map row_of ms) (row_of (keyed k p)) ≡ (ltb p (count (holds k) ms) && eqb (count (holds_at k p) ms) 1)
  unfolding positioned
  keyed-test k p = rw (count-key k, count_at k p)

  -- ---- from once each to the test

  pub once-positioned : OnceEach ms → Each Positioned ms
  unfolding positioned
  once-positioned once = each-mem Positioned ms go
    where
      go : (m : Mark) → Memᴰ m ms → Positioned m
      go (dead u) e = refl
      go (unkeyed u) e = refl
      go (keyed k p) e =
          let some : 0 < count (holds_at k p) ms =
          ⊎_elim (λ z. absurd (count_none (holds_at k p) e z (rw (eq-eqb k k refl, eq-eqb p p refl)))) (λ l. l) (eq-zero-or-pos (count (holds_at k p) ms)) in
          let low : ltb p (count (holds k) ms) ≡ true = bit-one _ (omega (arith, once k p)) in
          keyed-test k p ∙ rw (low, eq-eqb (count (holds_at k p) ms) 1 (once k p ∙ ap bit low))

  -- ---- and back: t slots at t places, no two at one, leave no place free

  abbrev held_below : (key bound : ℕ) → Mark → Bool
  held_below k h (dead u) = false
  held_below k h (unkeyed u) = false
  held_below k h (keyed j p) = eqb j k && ltb p h

  below_more : (k h : ℕ) → count (held_below k (suc h)) ms ≡ count (held_below k h) ms + count (holds_at k h) ms
  below_more k h = count-share (held_below k (suc h)) (held_below k h) (holds_at k h) ms at
    where
      split : (b : Bool) (p : ℕ) → bit (b && ltb p (suc h)) ≡ bit (b && ltb p h) + bit (b && eqb p h)
      split false p = refl
      split true p = below_suc p h

      at : (m : Mark) → bit (held_below k (suc h) m) ≡ bit (held_below k h m) + bit (holds_at k h m)
      at (dead u) = refl
      at (unkeyed u) = refl
      at (keyed j p) = split (eqb j k) p

  module _ (each : Each Positioned ms) where
    -- a position that is held is below the number of the key's slots, and is held once
    held-once : (k p : ℕ) → 0 < count (holds_at k p) ms → (p < count (holds k) ms) × (count (holds_at k p) ms ≡ 1)
    held-once k p = each-count (holds_at k p) ms (each_weaken Positioned (λ m. holds_at k p m ≡ true → (p < count (holds k) ms) × (count (holds_at k p) ms ≡ 1)) ms go each)
      where
        go : (m : Mark) → Positioned m → holds_at k p m ≡ true → (p < count (holds k) ms) × (count (holds_at k p) ms ≡ 1)
        go (dead u) t e = absurd (subst T (sym e) tt)
        go (unkeyed u) t e = absurd (subst T (sym e) tt)
        go (keyed j q) t e =
            let jk : j ≡ k = eqb-true j k (and_left (eqb j k) (eqb q p) e) in
            let qp : q ≡ p = eqb-true q p (and_right (eqb j k) (eqb q p) e) in
            let both : (ltb p (count (holds k) ms) && eqb (count (holds_at k p) ms) 1) ≡ true = rw (jk, qp) at (sym (keyed-test j q) ∙ t) in (
              ltb-true p (count (holds k) ms) (and_left (ltb p (count (holds k) ms)) (eqb (count (holds_at k p) ms) 1) both),
              eqb-true (count (holds_at k p) ms) 1 (and_right (ltb p (count (holds k) ms)) (eqb (count (holds_at k p) ms) 1) both),
            )

    at-most-once : (k p : ℕ) → count (holds_at k p) ms ≤ 1
    at-most-once k p = ⊎_elim (λ z. omega arith) (λ l. omega (arith, (held-once k p l).1)) (eq-zero-or-pos (count (holds_at k p) ms))

    -- all of the key's slots are below that number
    all-below : (k : ℕ) → count (held_below k (count (holds k) ms)) ms ≡ count (holds k) ms
    all-below k = count_same (held_below k (count (holds k) ms)) (holds k) ms (each_weaken Positioned (λ m. held_below k (count (holds k) ms) m ≡ holds k m) ms go each)
      where
        at : (b : Bool) (j p : ℕ) → eqb j k ≡ b → (ltb p (count (holds j) ms) ≡ true) → (b && ltb p (count (holds k) ms)) ≡ b
        at true j p e l = rw (eqb-true j k e) at l
        at false j p e l = refl

        go : (m : Mark) → Positioned m → held_below k (count (holds k) ms) m ≡ holds k m
        go (dead u) t = refl
        go (unkeyed u) t = refl
        go (keyed j p) t = at (eqb j k) j p refl (and_left _ _ (sym (keyed-test j p) ∙ t))

    below_none : (k : ℕ) → count (held_below k 0) ms ≡ 0
    below_none k = ⊎_elim (λ z. z) (λ l. absurd (each-count (held_below k 0) ms (each-mem (λ m. held_below k 0 m ≡ true → ⊥) ms (λ m e. go m)) l)) (eq-zero-or-pos (count (held_below k 0) ms))
      where
        go : (m : Mark) → held_below k 0 m ≡ true → ⊥
        go (dead u) e = subst T (sym e) tt
        go (unkeyed u) e = subst T (sym e) tt
        go (keyed j p) e = omega (arith, ltb-true p 0 (and_right (eqb j k) (ltb p 0) e))

    below-few : (k h : ℕ) → count (held_below k h) ms ≤ h
    below-few k zero = omega (arith, below_none k)
    below-few k (suc h) = omega (arith, below_more k h, at-most-once k h, below-few k h)

    gap-fewer : (k p h : ℕ) → count (holds_at k p) ms ≡ 0 → p < h → count (held_below k h) ms < h
    gap-fewer k p zero z l = absurd (omega arith)
    gap-fewer k p (suc h) z l =
        ⊎_elim
        (λ (e : p ≡ h). omega (arith, below_more k h, below-few k h, rw e at z))
        (λ (m : p < h). omega (arith, below_more k h, at-most-once k h, gap-fewer k p h z m))
        (eq-or-lt_of_le (le_of_suc-le-suc l))

    pub positioned-once : OnceEach ms
    positioned-once k p =
        elim (dec_lt p (count (holds k) ms)) [
          | yes l ↦ rw (lt-ltb p (count (holds k) ms) l)
              (⊎_elim (λ z. absurd (omega (arith, gap-fewer k p (count (holds k) ms) z l, all-below k))) (λ m. (held-once k p m).1) (eq-zero-or-pos (count (holds_at k p) ms)))
          | no l ↦ rw (le-ltb p (count (holds k) ms) (omega arith))
              (⊎_elim (λ z. z) (λ m. absurd (l (held-once k p m).0)) (eq-zero-or-pos (count (holds_at k p) ms)))
        ]
