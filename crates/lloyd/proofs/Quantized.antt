-- The number of boundaries below a value: one boundary more or less, and what one comparison says of it where the boundaries rise.
use mathlib.Core.Path.{◌≡◌, refl, sym, ap, ◌∙◌, subst}
use mathlib.Core.Logic.{inl, inr}
use Prim.Native.Nat.{ℕ, zero, suc, ◌+◌, ◌-◌, ◌/◌, ◌≤◌, ◌<◌, zero-le}
use native.Mathlib.Nat.{le_antisymm, le_of_lt, le_of_suc-le-suc, not-suc-le-zero, eq-or-lt_of_le}
use native.Mathlib.Numerals.{add-one}
use native.Mathlib.Omega.{arith}
use mathlib.Core.Bool.{Bool, true, false, cond}
use mathlib.Core.List.{List, [], ◌∷◌}
use Rattle.std.proofs.Common.{count_by}
use Rattle.std.proofs.lemmas.List.Sums.{count_by-le-length, sum_by-cons}
use lib.ListN.{length, get_or}
use lib.Ieee.{Float, nan, lt}
use Rattle.lloyd.specs.Quantizer.{quantized}
use Rattle.lloyd.specs.Sound.{Rises}
use Rattle.lloyd.proofs.Order.{lt_trans, none-below-itself, none-below-nan}

once : (t : Bool) → cond t 1 0 ≤ 1
once true = omega arith
once false = omega arith

pub quantized-count : (bs : List Float) (x : Float) → quantized bs x ≡ count_by (λ b. lt b x) bs
unfolding quantized
quantized-count [] x = refl
quantized-count (b ∷ bs) x = ap (λ n. cond (lt b x) 1 0 + n) (quantized-count bs x) ∙ sym (sum_by-cons (λ b. cond (lt b x) 1 0) b bs)

pub quantized-le : (bs : List Float) (x : Float) → quantized bs x ≤ length bs
quantized-le bs x = rw (quantized-count bs x) (count_by-le-length (λ b. lt b x) bs)

-- at least i boundaries are below x where the first i are, and at most i where none from place i on is
first_below : (bs : List Float) (x : Float) (i : ℕ) → i ≤ length bs → ((k : ℕ) → k < i → lt (get_or bs k nan) x ≡ true) → i ≤ quantized bs x
unfolding quantized
first_below bs x zero h f = zero-le
first_below [] x (suc i) h f = absurd (not-suc-le-zero h)
first_below (b ∷ bs) x (suc i) h f =
    rw (f 0 (omega arith)) (omega (arith, first_below bs x i (omega arith) (λ k l. f (suc k) (omega arith))))

rest-not-below : (bs : List Float) (x : Float) (i : ℕ) → ((k : ℕ) → i ≤ k → k < length bs → lt (get_or bs k nan) x ≡ false) → quantized bs x ≤ i
unfolding quantized
rest-not-below [] x i f = zero-le
rest-not-below (b ∷ bs) x zero f =
    rw (f 0 (omega arith) (omega arith)) (omega (arith, rest-not-below bs x 0 (λ k l h. f (suc k) (omega arith) (omega arith))))
rest-not-below (b ∷ bs) x (suc i) f =
    omega (arith, once (lt b x), rest-not-below bs x i (λ k l h. f (suc k) (omega arith) (omega arith)))

-- of two entries of a table that rises the earlier is below the later
earlier-below : (bs : List Float) → Rises bs → (i j : ℕ) → i < j → j < length bs → lt (get_or bs i nan) (get_or bs j nan) ≡ true
earlier-below bs R i zero h l = absurd (not-suc-le-zero h)
earlier-below bs R i (suc j) h l =
    let step : lt (get_or bs j nan) (get_or bs (suc j) nan) ≡ true = rw add-one at (R j (omega arith)) in
    elim (eq-or-lt_of_le (le_of_suc-le-suc h)) [
      | inl e ↦ subst (λ (k : ℕ). lt (get_or bs k nan) (get_or bs (suc j) nan) ≡ true) (sym e) step
      | inr g ↦ lt_trans (get_or bs i nan) (get_or bs j nan) (get_or bs (suc j) nan) (earlier-below bs R i j g (omega arith)) step
    ]

-- the entry at i compared with x: more than i boundaries are below x, or at most i are
module _ (bs : List Float) (R : Rises bs) (x : Float) (i : ℕ) (h : i < length bs) where
  pub more-than : lt (get_or bs i nan) x ≡ true → i < quantized bs x
  more-than p = first_below bs x (suc i) h up-to-i
    where
      up-to-i : (k : ℕ) → k < suc i → lt (get_or bs k nan) x ≡ true
      up-to-i k l = elim (eq-or-lt_of_le (le_of_suc-le-suc l)) [
        | inl e ↦ subst (λ (n : ℕ). lt (get_or bs n nan) x ≡ true) (sym e) p
        | inr g ↦ lt_trans (get_or bs k nan) (get_or bs i nan) x (earlier-below bs R k i g h) p
      ]

  pub at-most : lt (get_or bs i nan) x ≡ false → quantized bs x ≤ i
  at-most p = rest-not-below bs x i from-i-on
    where
      from-i-on : (k : ℕ) → i ≤ k → k < length bs → lt (get_or bs k nan) x ≡ false
      from-i-on k l m = go (lt (get_or bs k nan) x) refl
        where
          go : (t : Bool) → lt (get_or bs k nan) x ≡ t → t ≡ false
          go false e = refl
          go true e = elim (eq-or-lt_of_le l) [
            | inl q ↦ sym e ∙ subst (λ (n : ℕ). lt (get_or bs n nan) x ≡ false) q p
            | inr g ↦ sym (lt_trans (get_or bs i nan) (get_or bs k nan) x (earlier-below bs R i k g m) e) ∙ p
          ]

-- while x's code is looked for: it is `code` at least and `code + left` at most
pub record Between (bs : List Float) (x : Float) (code left : ℕ) : Type 0 where
  pub least : code ≤ quantized bs x
  pub most : quantized bs x ≤ code + left
  pub room : code + left ≤ length bs

-- the comparison with the boundary in the middle leaves half of the codes
pub halved : (bs : List Float) → Rises bs → (x : Float) (code left r : ℕ) → 0 < left → Between bs x code left
    → r ≡ cond (lt (get_or bs (code + (left - left / 2) - 1) nan) x) (left - left / 2) 0 → Between bs x (code + r) (left / 2)
halved bs R x code left r h b e = go (lt (get_or bs middle nan) x) refl e
  where
    middle : ℕ
    middle = code + (left - left / 2) - 1

    go : (t : Bool) → lt (get_or bs middle nan) x ≡ t → r ≡ cond t (left - left / 2) 0 → Between bs x (code + r) (left / 2)
    go true p q = record { least = omega (arith, more-than bs R x middle (omega arith) p); most = omega arith; room = omega arith }
    go false p q = record { least = omega arith; most = omega (arith, at-most bs R x middle (omega arith) p); room = omega arith }

-- ---- "equal takes the lower code, NaN gives 0"
pub quantized-at-boundary : (bs : List Float) → Rises bs → (i : ℕ) → i < length bs → quantized bs (get_or bs i nan) ≡ i
quantized-at-boundary bs R i h =
    le_antisymm (at-most bs R (get_or bs i nan) i h (none-below-itself (get_or bs i nan)))
    (first_below bs (get_or bs i nan) i (le_of_lt h) (λ k l. earlier-below bs R k i l h))

pub quantized-nan : (bs : List Float) → quantized bs nan ≡ 0
quantized-nan bs = le_antisymm (rest-not-below bs nan 0 (λ k l h. none-below-nan (get_or bs k nan))) zero-le
