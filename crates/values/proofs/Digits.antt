-- The number that a run of digits stands for, and the digits of a part of a run.
use mathlib.Core.Path.{◌≡◌, refl, ap, ◌∙◌}
use mathlib.Core.Bool.{true}
use mathlib.Core.List.{List, [], ◌∷◌}
use Prim.Native.Nat.{ℕ, zero, suc, ◌+◌, ◌*◌, ◌^◌, ◌≤◌, ◌<◌}
use native.Mathlib.Nat.{lt_of_lt_of_le, le_of_suc-le-suc, mul-le-mul_right, pow-le-pow_right, pow-suc}
use native.Mathlib.Numerals.{add-one}
use native.Mathlib.Omega.{arith}
use borrow.Author.Tests.{ltb-true}
use lib.Dec.{ltb, lit<}
use lib.ListN.{length, take, drop, get_or}
use lib.Seq.{drop-cons}
use Rattle.lists.proofs.Tests.{both}
use Rattle.values.specs.Reading.{digit_of, are_digits, value_after}

-- ---- every byte is a digit

pub first-digit : (b : ℕ) (l : List ℕ) → are_digits (b ∷ l) ≡ true → (ltb (digit_of b) 16 ≡ true) × (are_digits l ≡ true)
first-digit b l e = both (ltb (digit_of b) 16) (are_digits l) e

pub digit_at : (l : List ℕ) (i : ℕ) → are_digits l ≡ true → i < length l → digit_of (get_or l i 0) < 16
digit_at [] i e h = absurd (omega arith)
digit_at (b ∷ l) zero e h = ltb-true _ _ (first-digit b l e).0
digit_at (b ∷ l) (suc i) e h = digit_at l i (first-digit b l e).1 (le_of_suc-le-suc h)

digits-drop : (l : List ℕ) (j : ℕ) → are_digits l ≡ true → are_digits (drop j l) ≡ true
digits-drop l zero e = e
digits-drop [] (suc j) e = refl
digits-drop (b ∷ l) (suc j) e = digits-drop l j (first-digit b l e).1

digits-take : (l : List ℕ) (k : ℕ) → are_digits l ≡ true → are_digits (take k l) ≡ true
digits-take l zero e = refl
digits-take [] (suc k) e = refl
digits-take (b ∷ l) (suc k) e = rw ((first-digit b l e).0, digits-take l k (first-digit b l e).1)

pub digits-part : (l : List ℕ) (j k : ℕ) → are_digits l ≡ true → are_digits (take k (drop j l)) ≡ true
digits-part l j k e = digits-take (drop j l) k (digits-drop l j e)

-- a digit more
pub value-step : (l : List ℕ) (i : ℕ) → i < length l → (v : ℕ) → value_after (v * 16 + digit_of (get_or l i 0)) (drop (i + 1) l) ≡ value_after v (drop i l)
value-step l i h v = rw (add-one, drop-cons l i 0)

-- ---- i digits hold a number below 16 ^ i

pub one_more : (i v d : ℕ) → v < 16 ^ i → d < 16 → v * 16 + d < 16 ^ (i + 1)
one_more i v d h k =
    let more : (v + 1) * 16 ≤ 16 ^ i * 16 = mul-le-mul_right 16 (omega arith) in
    let same : 16 ^ (i + 1) ≡ 16 ^ i * 16 = ap (λ (n : ℕ). 16 ^ n) (add-one i) ∙ pow-suc 16 i in
    omega arith

pub below_64 : (i v d : ℕ) → i < 16 → v < 16 ^ i → d < 16 → v * 16 + d < 2 ^ 64
below_64 i v d l h k = lt_of_lt_of_le (one_more i v d h k) (pow-le-pow_right {n = 16} (lit< tt) {i = i + 1} {j = 16} (omega arith))
