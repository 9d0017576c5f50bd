-- Numbers in two parts, x below p and y times p, and powers as places: division by one is a shift, and a digit is what is cut off after it.
use mathlib.Core.Path.{◌≡◌, ap, ◌∙◌}
use Prim.Native.Nat.{ℕ, zero, suc, ◌+◌, ◌-◌, ◌*◌, ◌/◌, ◌%◌, ◌^◌, ◌<◌, ◌≤◌, zero-le}
use native.Mathlib.Nat.{mul_comm, mul_assoc, mul-zero, mul-suc, pow-zero, pow-suc, pow-succ', div-one, mod-mod_of_dvd, dvd-mul_right, mod-lt, lt_of_le_of_lt, mul-pos, div-div-eq-div-mul}
use native.Mathlib.Omega.{arith}
use lib.Arith.{digits_div, digits_mod, mod-mul}
use lib.Pow.{pow-add, pow_pos}

pub div_parts : (p x y : ℕ) → x < p → (x + p * y) / p ≡ y
div_parts p x y h = ap (λ (z : ℕ). z / p) (omega arith) ∙ digits_div y h

pub mod_parts : (p x y : ℕ) → x < p → (x + p * y) % p ≡ x
mod_parts p x y h = ap (λ (z : ℕ). z % p) (omega arith) ∙ digits_mod y h

-- what is kept below p * k: the low part whole, and the high part below k
pub mod-mul-parts : (p k x y : ℕ) → 0 < k → x < p → (x + p * y) % (p * k) ≡ x + p * (y % k)
mod-mul-parts p k x y hk h = rw (mul_comm p k, mod-mul (x + p * y) hk (lt_of_le_of_lt zero-le h), div_parts p x y h, mod_parts p x y h) (omega arith)

-- ---- places

pub div-pow-zero : (b v : ℕ) → v / b ^ 0 ≡ v
div-pow-zero b v = rw (pow-zero b) (div-one v)

-- one place more, taken first or last
pub div-first : (b v i : ℕ) → v / b / b ^ i ≡ v / b ^ suc i
div-first b v i = rw (pow-succ' b i) (div-div-eq-div-mul v b (b ^ i))

pub div-last : (b v i : ℕ) → v / b ^ i / b ≡ v / b ^ suc i
div-last b v i = rw (pow-suc b i) (div-div-eq-div-mul v (b ^ i) b)

pub div-pow-add : (b v i j : ℕ) → v / b ^ i / b ^ j ≡ v / b ^ (i + j)
div-pow-add b v i j = rw (pow-add b i j) (div-div-eq-div-mul v (b ^ i) (b ^ j))

pub pow-mul : (b i n : ℕ) → b ^ (i * n) ≡ (b ^ i) ^ n
pow-mul b i zero = rw (mul-zero i, pow-zero b, pow-zero (b ^ i))
pow-mul b i (suc n) = rw (mul-suc i n, pow-add b (i * n) i, pow-mul b i n, pow-suc (b ^ i) n)

pub pow-split : (b i n : ℕ) → i ≤ n → b ^ n ≡ b ^ i * b ^ (n - i)
pow-split b i n h = ap (λ (z : ℕ). b ^ z) {x = n} {y = i + (n - i)} (omega arith) ∙ pow-add b i (n - i)

-- n places: those below i, the k from there on, and the rest
pub pow-parts : (b i k n : ℕ) → i + k ≤ n → b ^ n ≡ b ^ i * b ^ k * b ^ (n - (i + k))
pow-parts b i k n h = pow-split b (i + k) n h ∙ ap (λ (z : ℕ). z * b ^ (n - (i + k))) (pow-add b i k)

-- ---- digits to powers of 2 as base

field : (x q r t : ℕ) → 0 < q → 0 < r → 0 < t → x % (q * r * t) / q % r ≡ x / q % r
field x q r t hq hr ht =
    rw (mul_assoc q r t, mul_comm q (r * t), mod-mul x (mul-pos hr ht) hq, digits_div (x / q % (r * t)) (mod-lt x hq))
    (mod-mod_of_dvd r (x / q) (dvd-mul_right r t))

-- the k bits from bit i on are the same in x and in its n lowest bits
pub cut : (i k n x : ℕ) → i + k ≤ n → x % 2 ^ n / 2 ^ i % 2 ^ k ≡ x / 2 ^ i % 2 ^ k
cut i k n x h = rw (pow-parts 2 i k n h) (field x (2 ^ i) (2 ^ k) (2 ^ (n - (i + k))) (pow_pos i) (pow_pos k) (pow_pos (n - (i + k))))

-- bit j of digit i to the base 2 ^ k is bit k * i + j
pub digit-bit : (k v i j : ℕ) → j < k → v / 2 ^ (k * i) % 2 ^ k / 2 ^ j % 2 ≡ v / 2 ^ (k * i + j) % 2
digit-bit k v i j h = cut j 1 k (v / 2 ^ (k * i)) (omega arith) ∙ ap (λ (z : ℕ). z % 2) (div-pow-add 2 v (k * i) j)
