-- The product of two numbers modulo 2 ^ 64, from their halves.
use Rattle.std.proofs.Common.{◌≡◌, ℕ, ◌+◌, ◌*◌, ◌/◌, ◌%◌, ◌^◌, sym, ap, ◌∙◌, ap₂, div-add-mod', arith}
use native.Mathlib.Nat.{add-mod-mod, mul-add-mod_self_right}

-- the first factor may be taken modulo m first
mod-product : (x y m : ℕ) → x % m * y % m ≡ x * y % m
mod-product x y m =
    sym (mul-add-mod_self_right (x / m * y) m (x % m * y))
    ∙ ap (λ (z : ℕ). z % m) (omega (arith, ap (λ (z : ℕ). z * y) (div-add-mod' x m)))

-- of two numbers of two digits to the base h, modulo h * h: the product of the high digits drops out
module _ (h a₁ a₀ b₁ b₀ : ℕ) where
  digit-products : (a₀ * b₀ + (a₀ * b₁ + a₁ * b₀) % (h * h) * h % (h * h)) % (h * h) ≡ (a₁ * h + a₀) * (b₁ * h + b₀) % (h * h)
  digit-products =
      rw (mod-product (a₀ * b₁ + a₁ * b₀) h (h * h), add-mod-mod)
      (sym (mul-add-mod_self_right (a₁ * b₁) (h * h) (a₀ * b₀ + (a₀ * b₁ + a₁ * b₀) * h)) ∙ ap (λ (z : ℕ). z % (h * h)) (omega arith))

pub from_halves : (a b cross r : ℕ) → cross ≡ (a % 2 ^ 32 * (b / 2 ^ 32) + a / 2 ^ 32 * (b % 2 ^ 32)) % 2 ^ 64
    → r ≡ (a % 2 ^ 32 * (b % 2 ^ 32) + cross * 2 ^ 32 % 2 ^ 64) % 2 ^ 64 → r ≡ a * b % 2 ^ 64
from_halves a b cross r e f =
    f ∙ ap (λ (z : ℕ). (a % 2 ^ 32 * (b % 2 ^ 32) + z * 2 ^ 32 % 2 ^ 64) % 2 ^ 64) e
    ∙ digit-products (2 ^ 32) (a / 2 ^ 32) (a % 2 ^ 32) (b / 2 ^ 32) (b % 2 ^ 32)
    ∙ ap₂ (λ (x y : ℕ). x * y % 2 ^ 64) (div-add-mod' a (2 ^ 32)) (div-add-mod' b (2 ^ 32))
