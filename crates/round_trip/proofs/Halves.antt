-- Halves: a half is below 2 ^ 16, and a pattern that was rounded to a half is rounded to the same one again.
use mathlib.Core.Path.{◌≡◌, refl, sym, ◌∙◌, subst}
use mathlib.Core.Logic.{inl}
use Prim.Native.Nat.{ℕ, ◌*◌, ◌/◌, ◌^◌, ◌≤◌, ◌<◌}
use native.Mathlib.Nat.{mul-lt-mul_of_pos_right, lt_of_not-le, le_of_lt, le_of_eq}
use native.Mathlib.Decide.{dec_le}
use native.Mathlib.Omega.{arith}
use lib.Pow.{pow_pos}
use Rattle.half.specs.Binary.{magnitude, sign_of, unsigned, infinity, Finite, Infinite}
use Rattle.half.specs.Nearest.{value, dist, twice_threshold, Rounded}
use Rattle.half.specs.Half.{narrowed, Narrowed, widened, Widened}
use Rattle.half.proofs.NearestLaw.{cancel}
use Rattle.half.proofs.Rounding.{value-le, value-injective, half-threshold, rounded-unique}
use Rattle.half.proofs.Narrow as Narrow
use Rattle.half.proofs.Widen as Widen

pub half-low : (x : ℕ) → x < 2 ^ 32 → narrowed x < 256 ^ 2
half-low x l =
    let m : Narrowed x (narrowed x) = Narrow.meets x (narrowed x) refl in
    let s : narrowed x / 2 ^ 15 ≡ x / 2 ^ 31 = m.sign in
    omega (arith, s)

-- the largest finite half
top : value 10 31743 ≡ 65504 * 2 ^ 24
unfolding magnitude
top = refl

-- a finite half is what its own value is rounded to
own-rounded : (c d : ℕ) → 0 < d → c < infinity 10 5 → Rounded 10 5 (value 10 c * d) d c
own-rounded c d p l = record { over = λ h. absurd (far h); below = λ h. record { finite = l; close = λ b k. omega arith; even = λ b k e. inl (same b e) } }
  where
    low : 2 * value 10 c < twice_threshold 10 5
    low = omega (arith, half-threshold, value-le 10 c 31743 (omega (arith, l)), top)

    far : twice_threshold 10 5 * d ≤ 2 * (value 10 c * d) → ⊥
    far h = omega (arith, h, mul-lt-mul_of_pos_right low p)

    same : (b : ℕ) → dist (value 10 c * d) (value 10 c * d) ≡ dist (value 10 c * d) (value 10 b * d) → b ≡ c
    same b e = value-injective 10 b c (cancel d (value 10 b) (value 10 c) p (omega (arith, e)))

-- the sign and the rest make the half
parts_same : (q r : ℕ) → sign_of 10 5 q ≡ sign_of 10 5 r → unsigned 10 5 q ≡ unsigned 10 5 r → q ≡ r
parts_same q r s u = omega (arith, s, u)

-- a half that is no NaN is read, and rounded to itself
pub back-to-itself : (r : ℕ) → unsigned 10 5 r ≤ infinity 10 5 → narrowed (widened r) ≡ r
back-to-itself r l = parts_same q r (mq.sign ∙ mw.sign) (kind (dec_le (infinity 10 5) (unsigned 10 5 r)))
  where
    q : ℕ
    q = narrowed (widened r)

    mw : Widened r (widened r)
    mw = Widen.meets r (widened r) refl

    mq : Narrowed (widened r) q
    mq = Narrow.meets (widened r) q refl

    finite : Finite 10 5 r → unsigned 10 5 q ≡ unsigned 10 5 r
    finite k =
        rounded-unique 10 5 (value 10 (unsigned 10 5 r) * 2 ^ 125) (2 ^ 125) (unsigned 10 5 q) (unsigned 10 5 r) (pow_pos 125)
        (subst (λ (n : ℕ). Rounded 10 5 n (2 ^ 125) (unsigned 10 5 q)) (mw.exact k) (mq.rounded (mw.finite k)))
        (own-rounded (unsigned 10 5 r) (2 ^ 125) (pow_pos 125) k)

    infinite : Infinite 10 5 r → unsigned 10 5 q ≡ unsigned 10 5 r
    infinite e = mq.infinite (mw.infinite e) ∙ sym e

    kind : Dec (infinity 10 5 ≤ unsigned 10 5 r) → unsigned 10 5 q ≡ unsigned 10 5 r
    kind (no a) = finite (lt_of_not-le a)
    kind (yes a) = infinite (omega (arith, a, l))

-- rounded, read and rounded again
pub narrow-again : (x : ℕ) → narrowed (widened (narrowed x)) ≡ narrowed x
narrow-again x = kind (dec_le (infinity 23 8) (unsigned 23 8 x)) (dec_le (unsigned 23 8 x) (infinity 23 8))
  where
    r : ℕ
    r = narrowed x

    q : ℕ
    q = narrowed (widened r)

    mx : Narrowed x r
    mx = Narrow.meets x r refl

    mw : Widened r (widened r)
    mw = Widen.meets r (widened r) refl

    mq : Narrowed (widened r) q
    mq = Narrow.meets (widened r) q refl

    no_number : unsigned 10 5 r ≡ 0x7E00 → q ≡ r
    no_number e = parts_same q r (mq.sign ∙ mw.sign) (mq.nan (mw.nan (omega (arith, e))) ∙ sym e)

    rounds : Rounded 10 5 (value 23 (unsigned 23 8 x)) (2 ^ 125) (unsigned 10 5 r) → q ≡ r
    rounds m = far (dec_le (twice_threshold 10 5 * 2 ^ 125) (2 * value 23 (unsigned 23 8 x)))
      where
        far : Dec (twice_threshold 10 5 * 2 ^ 125 ≤ 2 * value 23 (unsigned 23 8 x)) → q ≡ r
        far (yes h) = back-to-itself r (le_of_eq (m.over h))
        far (no h) = back-to-itself r (le_of_lt (m.below (lt_of_not-le h)).finite)

    kind : Dec (infinity 23 8 ≤ unsigned 23 8 x) → Dec (unsigned 23 8 x ≤ infinity 23 8) → q ≡ r
    kind (no a) b = rounds (mx.rounded (lt_of_not-le a))
    kind (yes a) (yes b) = back-to-itself r (le_of_eq (mx.infinite (omega (arith, a, b))))
    kind (yes a) (no b) = no_number (mx.nan (lt_of_not-le b))
