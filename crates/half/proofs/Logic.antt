-- This crate's definitions beside the logic's own account of binary32 (`lib.Ieee`): a finite pattern's value is the one that `of_bits` reads, and
-- `near` at binary32 gives the value that `round` gives.
use mathlib.Core.Path.{◌≡◌, sym, ap, ap₂, ◌∙◌, subst}
use Prim.Native.Nat.{ℕ, zero, suc, ◌+◌, ◌-◌, ◌*◌, ◌/◌, ◌%◌, ◌^◌, ◌<◌}
use native.Mathlib.Nat.{le_of_eq, le_of_lt, lt_of_lt_of_le, mul_assoc, mul_comm, mul-one, mul_right_comm, mul_left_comm, mul-pos, min-eq_left}
use native.Mathlib.Omega.{arith}
use mathlib.Core.Bool.{Bool, false}
use lib.Dec.{leb, lit<}
use lib.Pow.{pow_pos}
use lib.Ieee.{binary32, size, odd, of_bits, of_fields, round}
use lib.Ieee.Exact.{HasValue, odd_sign}
use lib.Ieee.Nearest.{closest, closest_same, div_same}
use lib.Ieee.Order.{drop, kept}
use lib.Ieee.Scale.{grid, round_val}
use borrow.Author.Tests.{ne_eqb}
use Rattle.half.specs.Binary.{infinity, magnitude, near, unsigned}
use Rattle.half.specs.Nearest.{value}
use Rattle.half.proofs.NearestLaw.{drops, keeps, pattern, near-is, pattern-value}
use Rattle.half.proofs.Rounding.{value-lt, infinity-value}

-- ---- the value of a finite pattern
fields_value : (s : Bool) (x f : ℕ) → (x ≡ 255 → ⊥) → HasValue (of_fields binary32 s x f) s (magnitude 23 x f) (2 ^ 149)
unfolding of_fields magnitude
fields_value s zero f n = subst (λ (z : ℕ). HasValue (odd 24 s f 0 149) s z (2 ^ 149)) (mul-one f) (odd_sign 24 s f 0 149)
fields_value s (suc x) f n = rw (ne_eqb (suc x) 255 n) (odd_sign 24 s (2 ^ 23 + f) x 149)

pub pattern-float : (b : ℕ) → unsigned 23 8 b < infinity 23 8 → HasValue (of_bits binary32 b) (leb (2 ^ 31) b) (value 23 (unsigned 23 8 b)) (2 ^ 149)
unfolding of_bits
pattern-float b l =
    let e : b % 2 ^ 31 % 2 ^ 23 ≡ b % 2 ^ 23 = omega arith in
    rw e (fields_value (leb (2 ^ 31) b) (b % 2 ^ 31 / 2 ^ 23) (b % 2 ^ 23) (λ z. omega arith))

-- ---- the rounding
module _ (n d : ℕ) (D : 0 < d) where
  abbrev low : ℕ
  low = 2 ^ 149

  abbrev dropped : ℕ
  dropped = drops 23 n d

  low-pos : 0 < d * low
  low-pos = mul-pos D (pow_pos 149)

  drop-is : drop 24 (n * low) (d * low) ≡ dropped
  drop-is = ap (λ (z : ℕ). size z - 24) (div_same (n * low) (d * low) n d low-pos D (mul_right_comm n low d ∙ mul_assoc n d low))

  kept-is : kept 24 (n * low) (d * low) ≡ keeps 23 n d
  kept-is =
      ap (λ (z : ℕ). closest (n * low) (d * low * 2 ^ z)) drop-is
      ∙ closest_same (n * low) (d * low * 2 ^ dropped) n (d * 2 ^ dropped) (mul-pos low-pos (pow_pos dropped)) (mul-pos D (pow_pos dropped))
      (simp (mul_assoc, mul_comm, mul_left_comm))

  grid-is : grid binary32 n (d * low) ≡ value 23 (pattern 23 n d)
  grid-is = ap₂ (λ (x y : ℕ). x * 2 ^ y) kept-is drop-is ∙ sym (pattern-value 23 n d D)

  -- where `near` gives no infinity, its pattern has the value that `round` gives
  pub near-round : near 23 8 n d < infinity 23 8 → HasValue (round binary32 false n (d * 2 ^ 149)) false (value 23 (near 23 8 n d)) (2 ^ 149)
  near-round l =
      let m = near-is 23 8 n d in
      let p = pattern 23 n d in
      let g : p < infinity 23 8 = omega (arith, m) in
      subst (λ (z : ℕ). HasValue (round binary32 false n (d * 2 ^ 149)) false z (2 ^ 149))
      (grid-is ∙ ap (value 23) (sym (m ∙ min-eq_left (le_of_lt g))))
      (round_val binary32 n (d * 2 ^ 149)
      (subst (λ (z : ℕ). z < 2 ^ 277) (sym grid-is) (lt_of_lt_of_le (value-lt 23 p (infinity 23 8) g) (le_of_eq (infinity-value 23 8 (lit< tt))))))
