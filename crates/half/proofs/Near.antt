-- `near` where the number of digits that it drops is known, and `closest` by its remainder.
use mathlib.Core.Path.{◌≡◌, refl, ap, subst}
use Prim.Native.Nat.{ℕ, suc, ◌+◌, ◌-◌, ◌*◌, ◌/◌, ◌%◌, ◌^◌, ◌≤◌, ◌<◌, compare, Ordering}
use native.Mathlib.Nat.{le_of_lt, lt_irrefl, le_trans, le_of_eq, le_antisymm, lt_of_lt_of_le, lt_of_not-le, not-le_of_lt, min-eq_left, min-eq_right}
use native.Mathlib.Nat.{le-div_iff_mul-le, div-lt_iff_lt-mul, mul_assoc, mul_comm, mul_left_comm, pow-suc, sub-eq-zero_of_le}
use native.Mathlib.Omega.{arith}
use lib.Dec.{T, is_le, compare_is_eq, le→leb, leb→le, eqb→eq}
use lib.Pow.{pow-add, pow_mono}
use lib.Ieee.{size, nearest}
use lib.Ieee.Fits.{eq→eqb}
use lib.Ieee.Digits.{size-lt, size-le}
use lib.Ieee.Nearest.{closest}
use Rattle.half.specs.Binary.{infinity, kept, near}

pub size_is : (n j : ℕ) → 2 ^ j ≤ n → n < 2 ^ suc j → size n ≡ suc j
size_is n j lo hi =
    le_antisymm (size-le n (suc j) hi) (lt_of_not-le (λ (g : size n ≤ j). not-le_of_lt (lt_of_lt_of_le (size-lt n) (pow_mono g)) lo))

-- ---- how many digits `near` drops
low-side : (t d k : ℕ) → 2 ^ (t + k) * d ≡ 2 ^ t * (d * 2 ^ k)
low-side t d k = simp (pow-add, mul_assoc, mul_comm, mul_left_comm)

high-side : (t d k : ℕ) → 2 ^ suc t * (d * 2 ^ k) ≡ 2 ^ suc (t + k) * d
high-side t d k = simp (pow-suc, pow-add, mul_assoc, mul_comm, mul_left_comm)

rest : (t k s : ℕ) → s ≡ suc (t + k) → s - suc t ≡ k
rest t k s e = omega arith

-- the whole part of n / d has t + 1 + k digits: k are dropped
pub near-at : (t w n d k : ℕ) → 0 < d → 2 ^ t * (d * 2 ^ k) ≤ n → n < 2 ^ suc t * (d * 2 ^ k) → near t w n d ≡ kept t w n d k
unfolding near
near-at t w n d k D lo hi =
    ap (λ (z : ℕ). kept t w n d z)
    (rest t k (size (n / d))
    (size_is (n / d) (t + k) ((le-div_iff_mul-le D).1 (le_trans (le_of_eq (low-side t d k)) lo))
    ((div-lt_iff_lt-mul D).1 (lt_of_lt_of_le hi (le_of_eq (high-side t d k))))))

-- it has at most t + 1 digits: none is dropped
pub near-low : (t w n d : ℕ) → 0 < d → n < 2 ^ suc t * d → near t w n d ≡ kept t w n d 0
unfolding near
near-low t w n d D hi = ap (λ (z : ℕ). kept t w n d z) (sub-eq-zero_of_le (size-le (n / d) (suc t) ((div-lt_iff_lt-mul D).1 hi)))

-- ---- q is what is kept: up to the infinity's pattern, and past it
pub kept-is : (t w n d k q : ℕ) → closest n (d * 2 ^ k) ≡ q → k * 2 ^ t + q ≤ infinity t w → kept t w n d k ≡ k * 2 ^ t + q
unfolding kept
kept-is t w n d k q e h = rw e (min-eq_left h)

pub kept-over : (t w n d k q : ℕ) → closest n (d * 2 ^ k) ≡ q → infinity t w ≤ k * 2 ^ t + q → kept t w n d k ≡ infinity t w
unfolding kept
kept-over t w n d k q e h = rw e (min-eq_right h)

-- ---- `closest`, by how twice the remainder compares with the divisor
compare-lt : (a b : ℕ) → a < b → compare a b ≡ Ordering.lt
compare-lt a b h = go (compare a b) (le→leb a b (le_of_lt h)) (λ t. lt_irrefl b (subst (λ (z : ℕ). z < b) (eqb→eq a b t) h))
  where
    go : (o : Ordering) → T (is_le o) → (T (compare_is_eq o) → ⊥) → o ≡ Ordering.lt
    go Ordering.lt p n = refl
    go Ordering.eq p n = absurd (n tt)
    go Ordering.gt p n = absurd p

compare-eq : (a b : ℕ) → a ≡ b → compare a b ≡ Ordering.eq
compare-eq a b e = go (compare a b) (eq→eqb e)
  where
    go : (o : Ordering) → T (compare_is_eq o) → o ≡ Ordering.eq
    go Ordering.lt p = absurd p
    go Ordering.eq p = refl
    go Ordering.gt p = absurd p

compare-gt : (a b : ℕ) → b < a → compare a b ≡ Ordering.gt
compare-gt a b h = go (compare a b) (λ t. not-le_of_lt h (leb→le a b t))
  where
    go : (o : Ordering) → (T (is_le o) → ⊥) → o ≡ Ordering.gt
    go Ordering.lt n = absurd (n tt)
    go Ordering.eq n = absurd (n tt)
    go Ordering.gt n = refl

pub closest-down : (a b : ℕ) → a % b * 2 < b → closest a b ≡ a / b
closest-down a b h = ap (nearest (a / b)) (compare-lt (a % b * 2) b h)

pub closest-tie : (a b : ℕ) → a % b * 2 ≡ b → closest a b ≡ a / b + a / b % 2
closest-tie a b e = ap (nearest (a / b)) (compare-eq (a % b * 2) b e)

pub closest-up : (a b : ℕ) → b < a % b * 2 → closest a b ≡ suc (a / b)
closest-up a b h = ap (nearest (a / b)) (compare-gt (a % b * 2) b h)
