-- Numbers by their binary digits: weights, a pattern's parts, fields joined by `|`, and the shift that brings a fraction's top bit to a place.
use mathlib.Core.Path.{◌≡◌, sym, ap, ap₂, ◌∙◌, subst}
use Prim.Native.Nat.{ℕ, suc, ◌+◌, ◌-◌, ◌*◌, ◌/◌, ◌%◌, ◌^◌, ◌≤◌, ◌<◌}
use native.Mathlib.Nat.{add-zero, mul_assoc, mod-eq_of_lt, le_trans, le_of_eq, lt_of_le_of_lt, lt_of_lt_of_le, lt_of_not-le, not-le_of_lt}
use native.Mathlib.Nat.{mul-le-mul_right, mul-lt-mul_of_pos_right}
use native.Mathlib.Omega.{arith}
use lib.Arith.{digits_div, digits_mod}
use lib.Pow.{pow-add, pow_pos, pow_mono, split, field, mod-mod-pow}
use lib.Bits.{bit_or, or_shifted}
use lib.Count.{count_leading_zeros, leading_top}
use Rattle.half.specs.Binary.{sign_of, unsigned, magnitude}
use Rattle.half.specs.Nearest.{value}

pub weight : (m a b : ℕ) → m * 2 ^ a * 2 ^ b ≡ m * 2 ^ (a + b)
weight m a b = mul_assoc m (2 ^ a) (2 ^ b) ∙ ap (λ (z : ℕ). m * z) (sym (pow-add 2 a b))

-- ---- a pattern's parts
pub value-unsigned : (t w b : ℕ) → value t (unsigned t w b) ≡ magnitude t (b / 2 ^ t % 2 ^ w) (b % 2 ^ t)
value-unsigned t w b = ap₂ (λ (x f : ℕ). magnitude t x f) (field b w t) (mod-mod-pow b w t)

pub sign-of-sum : (t w s v r : ℕ) → r ≡ s * 2 ^ (w + t) + v → v < 2 ^ (w + t) → sign_of t w r ≡ s
sign-of-sum t w s v r e l = ap (sign_of t w) e ∙ digits_div s l

pub unsigned-of-sum : (t w s v r : ℕ) → r ≡ s * 2 ^ (w + t) + v → v < 2 ^ (w + t) → unsigned t w r ≡ v
unsigned-of-sum t w s v r e l = ap (unsigned t w) e ∙ digits_mod s l

-- ---- joined by `|`: the k low digits of a are 0, and b has no others
pub or-add : (k a b : ℕ) → a % 2 ^ k ≡ 0 → b < 2 ^ k → bit_or a b ≡ a + b
or-add k a b e h =
    let w : a / 2 ^ k * 2 ^ k ≡ a = sym (add-zero (a / 2 ^ k * 2 ^ k)) ∙ ap (λ (z : ℕ). a / 2 ^ k * 2 ^ k + z) (sym e) ∙ split a k in
    subst (λ (z : ℕ). bit_or z b ≡ z + b) w (or_shifted (a / 2 ^ k) k b h)

-- a binary32 pattern from its sign, its exponent's field and the ten high digits of its fraction
pub single : (s e g : ℕ) → s < 2 → e < 256 → g < 1024
    → bit_or (bit_or (s * 0x8000_0000 % 0x1_0000_0000) (e * 0x80_0000 % 0x1_0000_0000)) (g * 0x2000 % 0x1_0000_0000)
    ≡ s * 0x8000_0000 + (e * 0x80_0000 + g * 0x2000)
single s e g hs he hg =
    let a : s * 0x8000_0000 % 0x1_0000_0000 ≡ s * 0x8000_0000 = mod-eq_of_lt (omega arith) in
    let b : e * 0x80_0000 % 0x1_0000_0000 ≡ e * 0x80_0000 = mod-eq_of_lt (omega arith) in
    let c : g * 0x2000 % 0x1_0000_0000 ≡ g * 0x2000 = mod-eq_of_lt (omega arith) in
    rw (a, b, c, or-add 31 (s * 0x8000_0000) (e * 0x80_0000) (omega arith) (omega arith))
    (or-add 23 (s * 0x8000_0000 + e * 0x80_0000) (g * 0x2000) (omega arith) (omega arith) ∙ omega arith)

-- ---- a fraction f of t digits, not 0, shifted by s has its top bit at t
pub record Shift (t f s : ℕ) : Type 0 where
  pub least : 0 < s
  pub most : s ≤ t
  pub above : 2 ^ t ≤ f * 2 ^ s
  pub below : f * 2 ^ s < 2 ^ suc t

shift-at : (t f j s : ℕ) → 2 ^ j ≤ f → f < 2 ^ suc j → j < t → j + s ≡ t → Shift t f s
shift-at t f j s a b l e =
    record {
      least = omega arith;
      most = omega arith;
      above = le_trans (le_of_eq (ap (λ (z : ℕ). 2 ^ z) (sym e) ∙ pow-add 2 j s)) (mul-le-mul_right (2 ^ s) a);
      below = lt_of_lt_of_le (mul-lt-mul_of_pos_right b (pow_pos s)) (le_of_eq (sym (pow-add 2 (suc j) s) ∙ ap (λ (z : ℕ). 2 ^ z) (omega arith)));
    }

-- in 32 bits there are 31 - t zeros above the fraction and the place of the leading one
pub shift_of : (t f : ℕ) → t < 32 → 0 < f → f < 2 ^ t → (31 - t ≤ count_leading_zeros 32 f) × Shift t f (count_leading_zeros 32 f - (31 - t))
shift_of t f T p h =
    let top = leading_top 32 f p (lt_of_lt_of_le h (pow_mono {i = t} {j = 32} (omega arith))) in
    let j = top.0 in
    let l : j < t = lt_of_not-le (λ (g : t ≤ j). not-le_of_lt (lt_of_le_of_lt top.2 h) (pow_mono g)) in
    let e : count_leading_zeros 32 f + suc j ≡ 32 = top.1 in
    (omega arith, shift-at t f j (count_leading_zeros 32 f - (31 - t)) top.2 top.3 l (omega arith))

-- so the shift is the zeros among the t digits above the top bit, plus one
pub zeros-plus-one : (t f : ℕ) → t < 32 → 0 < f → f < 2 ^ t → (32 - t ≤ count_leading_zeros 32 f) × Shift t f (count_leading_zeros 32 f - (32 - t) + 1)
zeros-plus-one t f T p h =
    let s = (shift_of t f T p h).1 in
    (omega (arith, s.least), subst (Shift t f) {x = count_leading_zeros 32 f - (31 - t)} {y = count_leading_zeros 32 f - (32 - t) + 1} (omega (arith, s.least)) s)
