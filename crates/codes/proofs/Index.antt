-- Where code i begins, counted without a product that could overflow: eight codes take w bytes. Small powers.
use mathlib.Core.Path.{◌≡◌, ap, ◌∙◌}
use Prim.Native.Nat.{ℕ, ◌+◌, ◌*◌, ◌/◌, ◌%◌, ◌^◌, ◌<◌, ◌≤◌}
use native.Mathlib.Nat.{div-add-mod, mul-le-mul_left, mod-lt, lt_of_lt_of_le, mod-eq_of_lt, one-mul}
use native.Mathlib.Omega.{arith}
use lib.Pow.{pow_pos, pow_mono}

pub record Eights (w i : ℕ) : Type 0 where
  pub whole : w * i ≡ 8 * (i / 8 * w) + i % 8 * w
  pub high : i / 8 * w ≤ i / 8 * 8
  pub low : i % 8 * w ≤ i % 8 * 8

pub eights : (w i : ℕ) → w ≤ 8 → Eights w i
eights w i h =
    record {
      whole = omega (arith, ap (λ (z : ℕ). w * z) (div-add-mod i 8));
      high = mul-le-mul_left (i / 8) h;
      low = mul-le-mul_left (i % 8) h;
    }

pub power_le : (k : ℕ) → k ≤ 8 → 2 ^ k ≤ 256
power_le k h = pow_mono {i = k} {j = 8} h

pub cut-lt : (x k : ℕ) → k ≤ 8 → x % 2 ^ k < 256
cut-lt x k h = lt_of_lt_of_le (mod-lt x (pow_pos k)) (power_le k h)

-- 1 shifted by k places, in 16 bits
pub shifted : (k : ℕ) → k ≤ 8 → 1 * 2 ^ k % 65536 ≡ 2 ^ k
shifted k h = mod-eq_of_lt (omega (arith, power_le k h)) ∙ one-mul (2 ^ k)
