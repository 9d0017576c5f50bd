-- The root of a float: which patterns the floats of each case have, and that `square_root` gives what `SquareRoot` says.
use mathlib.Core.Path.{◌≡◌, refl, sym, ap, ◌∙◌, subst}
use Prim.Native.Nat.{ℕ, zero, suc, ◌+◌, ◌*◌, ◌%◌, ◌^◌, ◌≤◌, ◌<◌}
use native.Mathlib.Nat.{lt_of_not-le, zero-mul, zero-div}
use native.Mathlib.Decide.{dec_le}
use native.Mathlib.Omega.{arith}
use mathlib.Core.Bool.{Bool, true, false, not}
use lib.Dec.{T, lit≤}
use lib.IntN.{ℤ}
use lib.Ieee.{Float, nan, inf, fin, binary32, of_bits, to_bits, fits, lt, eq, up, down}
use lib.Ieee.Bits.{of_bits-to_bits, to_bits-of_bits, to_bits-lt, nan_bits_is}
use lib.Ieee.Fits.{up_pos}
use borrow.Author.Tests.{ne_eqb, ltb-true}
use Rattle.half.specs.Binary.{infinity}
use Rattle.std.proofs.lemmas.Float.{not_nan_f32_bits}
use Rattle.pattern.proofs.Nan.{nan_pattern}
use Rattle.sqrt.specs.Root.{radicand, nearest_root, root_bits, square_root, NearestRoot, SquareRoot}
use Rattle.sqrt.proofs.Round.{nearest-root}
use Rattle.sqrt.proofs.Cases.{at-nan, at_zero, at-past, at-infinity, at-positive}

abbrev origin : Float
origin = of_bits binary32 0

both : (t : Bool) → t ≡ true → t ≡ false → ⊥
both t h e = subst T (sym h ∙ e) tt

-- a zero is neither below nor above 0
level-at : (b : ℕ) → b < 2 ^ 32 → b % 2 ^ 31 ≡ 0 → (lt (of_bits binary32 b) origin ≡ false) × (lt origin (of_bits binary32 b) ≡ false)
unfolding lt of_bits
level-at b l e = go (dec_le (2 ^ 31) b)
  where
    go : Dec (2 ^ 31 ≤ b) → (lt (of_bits binary32 b) origin ≡ false) × (lt origin (of_bits binary32 b) ≡ false)
    go (yes h) = let z : b ≡ 2 ^ 31 = omega arith in rw z (refl, refl)
    go (no f) = let z : b ≡ 0 = omega (arith, lt_of_not-le f) in rw z (refl, refl)

-- the sign makes a difference of 2 ^ 31 and no other
sign_bit : (m : ℕ) (e : ℤ) → to_bits binary32 (fin true m e) ≡ 2 ^ 31 + to_bits binary32 (fin false m e)
unfolding to_bits
sign_bit m e = omega arith

fits_signed : (m : ℕ) (e : ℤ) → T (fits binary32 (fin false m e)) → T (fits binary32 (fin true m e))
unfolding fits
fits_signed zero e h = h
fits_signed (suc m) e h = h

zero_bits : (s : Bool) (e : ℤ) → to_bits binary32 (fin s 0 e) % 2 ^ 31 ≡ 0
unfolding to_bits
zero_bits true e = rw (zero-mul (up e), zero-mul (2 ^ 149), zero-div (down e))
zero_bits false e = rw (zero-mul (up e), zero-mul (2 ^ 149), zero-div (down e))

-- x < 0
below-high : (x : Float) → lt x origin ≡ true → 2 ^ 31 ≤ to_bits binary32 x
unfolding lt of_bits to_bits
below-high nan h = absurd (both false h refl)
below-high (inf true) h = lit≤ tt
below-high (inf false) h = absurd (both false h refl)
below-high (fin true m e) h = omega (arith, sign_bit m e)
below-high (fin false m e) h = absurd (omega (arith, ltb-true (m * up e * 1) (0 * 1 * down e) h))

-- x = 0
level-bits : (x : Float) → eq x origin ≡ true → to_bits binary32 x % 2 ^ 31 ≡ 0
unfolding eq of_bits
level-bits nan h = absurd (both false h refl)
level-bits (inf s) h = absurd (both false h refl)
level-bits (fin s zero e) h = zero_bits s e
level-bits (fin s (suc m) e) h = absurd (both (eq (fin s (suc m) e) origin) h (rw (ne_eqb (suc m * up e * 1) (0 * 1 * down e) (λ z. omega (arith, up_pos e)))))

-- 0 < x
above_low : (x : Float) → T (fits binary32 x) → lt origin x ≡ true → to_bits binary32 x < 2 ^ 31
unfolding lt of_bits to_bits
above_low nan f h = absurd (both false h refl)
above_low (inf true) f h = absurd (both false h refl)
above_low (inf false) f h = lit≤ tt
above_low (fin true m e) f h = absurd (both false h refl)
above_low (fin false m e) f h = omega (arith, sign_bit m e, to_bits-lt binary32 (fin true m e) (fits_signed m e f))

-- no comparison with a NaN holds, and the infinity is not below itself
nan_at : (b : ℕ) → infinity 23 8 < b % 2 ^ 31 → lt origin (of_bits binary32 b) ≡ false
unfolding lt of_bits
nan_at b h = ap (lt origin) (nan_pattern b h)

infinity-at : (b : ℕ) → b ≡ infinity 23 8 → lt (of_bits binary32 b) (inf false) ≡ false
unfolding lt of_bits
infinity-at b e = rw e

nan-bits : to_bits binary32 nan ≡ 0x7FC0_0000
unfolding to_bits
nan-bits = refl

infinity-bits : to_bits binary32 (inf false) ≡ infinity 23 8
unfolding to_bits
infinity-bits = refl

module _ (x : Float) (held : T (fits binary32 x)) where
  abbrev b : ℕ
  b = to_bits binary32 x

  back : of_bits binary32 b ≡ x
  back = of_bits-to_bits binary32 x held

  b_lt : b < 2 ^ 32
  b_lt = to_bits-lt binary32 x held

  level : b % 2 ^ 31 ≡ 0 → (lt x origin ≡ false) × (lt origin x ≡ false)
  level e = rw back at (level-at b b_lt e)

  -- 0 < x < ∞
  between : lt origin x ≡ true → lt x (inf false) ≡ true → (0 < b) × (b < infinity 23 8)
  between h l =
      let low = above_low x held h in
      let z : b % 2 ^ 31 ≡ 0 → ⊥ = λ e. both (lt origin x) h (level e).1 in
      let n : infinity 23 8 < b % 2 ^ 31 → ⊥ = λ g. both (lt origin x) h (rw back at (nan_at b g)) in
      let i : b ≡ infinity 23 8 → ⊥ = λ e. both (lt x (inf false)) l (rw back at (infinity-at b e)) in
      (omega arith, omega arith)

  -- ---- the root by its pattern
  through : (r : ℕ) → root_bits b ≡ r → square_root x ≡ of_bits binary32 r
  unfolding square_root
  through r e = ap (of_bits binary32) e

  none : root_bits b ≡ 0x7FC0_0000 → square_root x ≡ nan
  none e = through 0x7FC0_0000 e ∙ nan_pattern 0x7FC0_0000 (lit≤ tt)

  itself : root_bits b ≡ b → square_root x ≡ x
  itself e = through b e ∙ back

  finite : (r : ℕ) → r < infinity 23 8 → root_bits b ≡ r → to_bits binary32 (square_root x) ≡ r
  finite r h e =
      ap (to_bits binary32) (through r e)
      ∙ to_bits-of_bits binary32 r (omega arith) (subst (λ (t : Bool). T (not t)) (nan_bits_is binary32 r) (not_nan_f32_bits r (omega arith)))

  pub square-root : SquareRoot x (square_root x)
  square-root = record {
    is = refl;
    of_nan = λ e. none (at-nan b (omega (arith, ap (to_bits binary32) e, nan-bits)));
    of_negative = λ h. none (at-past b b_lt (λ e. both (lt x origin) h (level e).0) (omega (arith, below-high x h)));
    of_zero = λ h. itself (at_zero b (level-bits x h));
    of_infinity = λ e. itself (at-infinity b (ap (to_bits binary32) e ∙ infinity-bits));
    of_positive =
        λ h l.
        let w = between h l in
        let n = nearest-root b w.0 w.1 in
        subst (λ (z : ℕ). NearestRoot (radicand b) z) (sym (finite (nearest_root (radicand b)) n.finite (at-positive b w.0 w.1))) n;
  }
