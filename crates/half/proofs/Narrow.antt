-- What `narrowed` is, by cases on the binary32 pattern's fields, as the code works it out; and that it is what `Narrowed` says.
use mathlib.Core.Path.{◌≡◌, sym, ap, ap₂, ◌∙◌, subst}
use Prim.Native.Nat.{ℕ, zero, suc, ◌+◌, ◌-◌, ◌*◌, ◌/◌, ◌%◌, ◌^◌, ◌≤◌, ◌<◌, compare}
use native.Mathlib.Nat.{le_refl, le_trans, le_of_eq, lt_of_lt_of_le, mod-eq_of_lt, div-eq_of_lt, div-lt_iff_lt-mul, min-le_right, zero-lt-suc}
use native.Mathlib.Nat.{mul_assoc, mul-le-mul_right, mul-le-mul_left, mul-lt-mul_of_pos_right}
use native.Mathlib.Decide.{dec_le}
use native.Mathlib.Omega.{arith}
use lib.Dec.{lit<, lit≤}
use lib.Pow.{pow-add, pow_pos, pow_mono, shl_lt}
use lib.Ieee.Fits.{nearest-le}
use lib.Ieee.Nearest.{closest, closest_same, nearest-ge}
use borrow.Author.Tests.{ne_eqb, lt-ltb, le-ltb}
use Rattle.half.specs.Binary.{magnitude, kept, near, unsigned}
use Rattle.half.specs.Nearest.{value, Rounded}
use Rattle.half.specs.Half.{narrowed, narrowed_unsigned, Narrowed}
use Rattle.half.proofs.Digits.{weight, value-unsigned, sign-of-sum, unsigned-of-sum}
use Rattle.half.proofs.Near.{near-at, near-low, kept-is, kept-over, closest-down}
use Rattle.half.proofs.Rounding.{near-rounded}

-- ---- what a finite pattern with the exponent's field x and the fraction f rounds to. A unit of binary16 is 2 ^ 125 of binary32
abbrev pub rounds : ℕ → ℕ → ℕ
rounds x f = near 10 5 (magnitude 23 x f) (2 ^ 125)

tiny : (f d : ℕ) → f * 2 < d → closest f d ≡ 0
tiny f d h =
    let l : f < d = omega arith in
    let r : f % d ≡ f = mod-eq_of_lt l in
    closest-down f d (omega arith) ∙ div-eq_of_lt l

-- m is the significand with its leading one, of 24 digits
module _ (f m : ℕ) (F : f < 0x80_0000) (e : m ≡ 0x80_0000 + f) where
  low : 0x80_0000 ≤ m
  low = omega arith

  high : m < 0x100_0000
  high = omega arith

  at_suc : (y v : ℕ) → near 10 5 (m * 2 ^ y) (2 ^ 125) ≡ v → rounds (suc y) f ≡ v
  unfolding magnitude
  at_suc y v p = ap (λ (z : ℕ). near 10 5 (z * 2 ^ y) (2 ^ 125)) (sym e) ∙ p

  same-part : (y k s : ℕ) → y + s ≡ 125 + k → closest (m * 2 ^ y) (2 ^ 125 * 2 ^ k) ≡ closest m (2 ^ s)
  same-part y k s e =
      closest_same (m * 2 ^ y) (2 ^ 125 * 2 ^ k) m (2 ^ s) (subst (λ (z : ℕ). 0 < z) (pow-add 2 125 k) (pow_pos (125 + k))) (pow_pos s)
      (weight m y s ∙ ap (λ (z : ℕ). m * z) (ap (λ (z : ℕ). 2 ^ z) e ∙ pow-add 2 125 k))

  -- ---- from 2 ^ -14 on: 13 of the 24 digits are dropped
  at-13 : (y : ℕ) → 112 ≤ y → near 10 5 (m * 2 ^ y) (2 ^ 125) ≡ kept 10 5 (m * 2 ^ y) (2 ^ 125) (y - 112)
  at-13 y h =
      let k = y - 112 in
      let e : 2 ^ (125 + k) ≡ 2 ^ (13 + y) = ap (λ (z : ℕ). 2 ^ z) (omega arith) in
      let p : 2 ^ 125 * 2 ^ k ≡ 2 ^ 13 * 2 ^ y = sym (pow-add 2 125 k) ∙ e ∙ pow-add 2 13 y in
      let side : (a : ℕ) → a * (2 ^ 125 * 2 ^ k) ≡ a * 2 ^ 13 * 2 ^ y = λ a. ap (λ (z : ℕ). a * z) p ∙ sym (mul_assoc a (2 ^ 13) (2 ^ y)) in
      near-at 10 5 (m * 2 ^ y) (2 ^ 125) k (pow_pos 125)
      (le_trans (le_of_eq (side 1024)) (mul-le-mul_right (2 ^ y) low))
      (lt_of_lt_of_le (mul-lt-mul_of_pos_right high (pow_pos y)) (le_of_eq (sym (side 2048))))

  same-13 : (y : ℕ) → 112 ≤ y → closest (m * 2 ^ y) (2 ^ 125 * 2 ^ (y - 112)) ≡ closest m (2 ^ 13)
  same-13 y h = same-part y (y - 112) 13 (omega arith)

  pub most : closest m (2 ^ 13) ≤ 2048
  most = le_trans (nearest-le (m / 8192) (compare (m % 8192 * 2) 8192)) (omega arith)

  least : 1024 ≤ closest m (2 ^ 13)
  least = le_trans (omega arith) (nearest-ge (m / 8192) (compare (m % 8192 * 2) 8192))

  pub over : (x : ℕ) → 142 < x → rounds x f ≡ 0x7C00
  over zero h = absurd (omega arith)
  over (suc y) h =
      at_suc y 0x7C00
      (at-13 y (omega arith) ∙ kept-over 10 5 (m * 2 ^ y) (2 ^ 125) (y - 112) (closest m (2 ^ 13)) (same-13 y (omega arith)) (omega (arith, least)))

  pub normal : (x : ℕ) → 113 ≤ x → x ≤ 142 → rounds x f ≡ (x - 113) * 1024 + closest m (2 ^ 13)
  normal zero h l = absurd (omega arith)
  normal (suc y) h l =
      at_suc y ((suc y - 113) * 1024 + closest m (2 ^ 13))
      (at-13 y (omega arith)
      ∙ kept-is 10 5 (m * 2 ^ y) (2 ^ 125) (y - 112) (closest m (2 ^ 13)) (same-13 y (omega arith)) (omega (arith, most))
      ∙ omega arith)

  -- ---- below 2 ^ -14: what is below a half's unit is dropped, 14 digits or more
  pub few : (s : ℕ) → 14 ≤ s → closest m (2 ^ s) ≤ 1024
  few s h =
      le_trans (nearest-le (m / 2 ^ s) (compare (m % 2 ^ s * 2) (2 ^ s)))
      ((div-lt_iff_lt-mul (pow_pos s)).1 (lt_of_lt_of_le high (le_trans (le_refl (1024 * 2 ^ 14)) (mul-le-mul_left 1024 (pow_mono h)))))

  pub none : (s : ℕ) → 24 < s → closest m (2 ^ s) ≡ 0
  none s h = tiny m (2 ^ s) (lt_of_lt_of_le (mul-lt-mul_of_pos_right high (zero-lt-suc 1)) (le_trans (le_refl (2 ^ 25)) (pow_mono h)))

  pub subnormal : (x : ℕ) → x < 113 → rounds x f ≡ closest m (2 ^ (126 - x))
  unfolding magnitude
  subnormal zero h =
      near-low 10 5 f (2 ^ 125) (pow_pos 125) (lt_of_lt_of_le F (lit≤ tt))
      ∙ kept-is 10 5 f (2 ^ 125) 0 0 (tiny f (2 ^ 125) (lt_of_lt_of_le (mul-lt-mul_of_pos_right F (zero-lt-suc 1)) (lit≤ tt))) (omega arith)
      ∙ sym (none 126 (omega arith))
  subnormal (suc y) h =
      let s = 126 - suc y in
      let q = few s (omega arith) in
      at_suc y (closest m (2 ^ s))
      (near-low 10 5 (m * 2 ^ y) (2 ^ 125) (pow_pos 125)
      (lt_of_lt_of_le (shl_lt 24 y high) (le_trans (pow_mono {i = 24 + y} {j = 136} (omega arith)) (le_refl (2 ^ 136))))
      ∙ kept-is 10 5 (m * 2 ^ y) (2 ^ 125) 0 (closest m (2 ^ s)) (same-part y 0 s (omega arith)) (omega arith)
      ∙ omega arith)

-- ---- a pattern u without its sign
finite-unsigned : (u : ℕ) → u < 0x7F80_0000 → narrowed_unsigned u ≡ near 10 5 (value 23 u) (2 ^ 125)
unfolding narrowed_unsigned
finite-unsigned u l = rw (lt-ltb u 0x7F80_0000 l)

infinite-unsigned : (u : ℕ) → u ≡ 0x7F80_0000 → narrowed_unsigned u ≡ 0x7C00
unfolding narrowed_unsigned
infinite-unsigned u e = rw e

nan-unsigned : (u : ℕ) → 0x7F80_0000 < u → narrowed_unsigned u ≡ 0x7E00
unfolding narrowed_unsigned
nan-unsigned u l = rw (le-ltb u 0x7F80_0000 (omega arith), ne_eqb u 0x7F80_0000 (omega arith))

-- ---- `narrowed` of a pattern b whose fields below the sign are x and f
module _ (b x f : ℕ) (X : b / 0x80_0000 % 256 ≡ x) (F : b % 0x80_0000 ≡ f) where
  abbrev signed : ℕ → ℕ
  signed v = b / 0x8000_0000 * 32768 + v

  signed_of : (v : ℕ) → narrowed_unsigned (b % 0x8000_0000) ≡ v → narrowed b ≡ signed v
  unfolding narrowed
  signed_of v e = ap signed e

  pub finite : (v : ℕ) → x < 255 → rounds x f ≡ v → narrowed b ≡ signed v
  finite v l e =
      signed_of v
      (finite-unsigned (b % 0x8000_0000) (omega arith)
      ∙ ap (λ (z : ℕ). near 10 5 z (2 ^ 125)) (value-unsigned 23 8 b ∙ ap₂ (λ (a c : ℕ). magnitude 23 a c) X F)
      ∙ e)

  pub infinite : x ≡ 255 → f ≡ 0 → narrowed b ≡ signed 0x7C00
  infinite e z = signed_of 0x7C00 (infinite-unsigned (b % 0x8000_0000) (omega arith))

  pub no_number : x ≡ 255 → (f ≡ 0 → ⊥) → narrowed b ≡ signed 0x7E00
  no_number e n = signed_of 0x7E00 (nan-unsigned (b % 0x8000_0000) (omega (arith, n)))

-- ---- the result r has every field of `Narrowed`
module _ (x r : ℕ) (e : r ≡ narrowed x) where
  abbrev u : ℕ
  u = x % 0x8000_0000

  near-most : near 10 5 (value 23 u) (2 ^ 125) ≤ 31744
  unfolding near kept
  near-most = min-le_right _ 31744

  below : narrowed_unsigned u < 2 ^ 15
  below = go (dec_le (suc u) 0x7F80_0000) (dec_le u 0x7F80_0000)
    where
      go : Dec (u < 0x7F80_0000) → Dec (u ≤ 0x7F80_0000) → narrowed_unsigned u < 2 ^ 15
      go (yes a) b = omega (arith, finite-unsigned u a, near-most)
      go (no a) (yes b) = omega (arith, infinite-unsigned u (omega arith))
      go (no a) (no b) = omega (arith, nan-unsigned u (omega arith))

  sum : r ≡ x / 0x8000_0000 * 2 ^ 15 + narrowed_unsigned u
  unfolding narrowed
  sum = e

  rest : unsigned 10 5 r ≡ narrowed_unsigned u
  rest = unsigned-of-sum 10 5 (x / 0x8000_0000) (narrowed_unsigned u) r sum below

  pub meets : Narrowed x r
  meets =
      record {
        equals = e;
        sign = sign-of-sum 10 5 (x / 0x8000_0000) (narrowed_unsigned u) r sum below;
        rounded =
            λ l.
            subst (λ (z : ℕ). Rounded 10 5 (value 23 u) (2 ^ 125) z) (sym (rest ∙ finite-unsigned u l))
            (near-rounded 10 5 (value 23 u) (2 ^ 125) (lit< tt) (lit< tt) (pow_pos 125));
        infinite = λ z. rest ∙ infinite-unsigned u z;
        nan = λ l. rest ∙ nan-unsigned u l;
      }
