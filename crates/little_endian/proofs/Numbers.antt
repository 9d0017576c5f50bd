-- Little-endian numbers by the worth of each byte, as `from_le_bytes` adds them up.
use Rattle.std.proofs.Common.{◌≡◌, ℕ, zero, suc, ◌+◌, ◌*◌, ◌^◌, ◌<◌, List, [], ◌∷◌, take, get_or, refl, sym, ◌∙◌, arith}
use native.Mathlib.Nat.{pow-suc}
use Rattle.std.specs.Int.{byte_worth, sum_through}
use Rattle.digits.specs.Digits.{number}
use Rattle.index.specs.Read.{little_endian}

sum-first : (f : ℕ → ℕ) (k : ℕ) → sum_through f (suc k) ≡ f 0 + sum_through (λ i. f (suc i)) k
sum-first f zero = refl
sum-first f (suc k) = omega (arith, sum-first f k)

sum-none : (k : ℕ) → sum_through (λ i. byte_worth i 0) k ≡ 0
sum-none zero = refl
sum-none (suc k) = omega (arith, sum-none k)

-- the bytes one place up
sum-up : (f : ℕ → ℕ) (k : ℕ) → sum_through (λ i. byte_worth (suc i) (f i)) k ≡ 256 * sum_through (λ i. byte_worth i (f i)) k
sum-up f zero = omega arith
sum-up f (suc k) =
    let e : 256 ^ suc (suc k) ≡ 256 ^ suc k * 256 = pow-suc 256 (suc k) in
    rw e (omega (arith, sum-up f k))

sum-same : (f g : ℕ → ℕ) (k : ℕ) → ((i : ℕ) → i < suc k → f i ≡ g i) → sum_through (λ i. byte_worth i (f i)) k ≡ sum_through (λ i. byte_worth i (g i)) k
sum-same f g zero h = h 0 (omega arith)
sum-same f g (suc k) h = rw (h (suc k) (omega arith)) (omega (arith, sum-same f g k (λ i l. h i (omega arith))))

number-sum : (bytes : List ℕ) (k : ℕ) → number 256 (take (suc k) bytes) ≡ sum_through (λ i. byte_worth i (get_or bytes i 0)) k
number-sum [] k = sym (sum-none k)
number-sum (b ∷ bytes) zero = omega arith
number-sum (b ∷ bytes) (suc k) =
    omega (arith, number-sum bytes k, sum-first (λ i. byte_worth i (get_or (b ∷ bytes) i 0)) k, sum-up (λ i. get_or bytes i 0) k)

-- what the first bytes make
pub first-number : (head bytes : List ℕ) (k : ℕ) → ((i : ℕ) → i < suc k → get_or head i 0 ≡ get_or bytes i 0)
    → sum_through (λ i. byte_worth i (get_or head i 0)) k ≡ little_endian (suc k) bytes
unfolding little_endian
first-number head bytes k h = sum-same (λ i. get_or head i 0) (λ i. get_or bytes i 0) k h ∙ sym (number-sum bytes k)
