-- Rounding in a format: values rise with their patterns, `near` gives what `Rounded` says, and no other pattern is `Rounded`.
use mathlib.Core.Path.{◌≡◌, refl, sym, ap, ◌∙◌, subst}
use mathlib.Core.Logic.{◌⊎◌, inl, inr, ⊎_elim}
use Prim.Native.Nat.{ℕ, zero, suc, ◌+◌, ◌-◌, ◌*◌, ◌/◌, ◌%◌, ◌^◌, ◌≤◌, ◌<◌, min}
use native.Mathlib.Nat.{le_refl, le_of_lt, le_of_eq, le_antisymm, lt-suc_self, lt_of_le_of_lt, lt_of_lt_of_le, lt_of_not-le, le_dest, eq-or-lt_of_le}
use native.Mathlib.Nat.{add-zero, suc-mul, mul-pos, mod-lt, mul-le-mul_right, mul-lt-mul_of_pos_right, min-eq_left, min-eq_right}
use native.Mathlib.Decide.{dec_le}
use native.Mathlib.Omega.{arith}
use lib.Pow.{pow-add, pow_pos, pow_mono, split}
use Rattle.half.specs.Binary.{magnitude, infinity, near}
use Rattle.half.specs.Nearest.{value, dist, twice_threshold, Nearest, Rounded}
use Rattle.half.proofs.NearestLaw.{value-at, even_sum, cancel, pattern, near-is, unbounded}

-- ---- values rise with their patterns
step-at : (t k q : ℕ) → q < 2 ^ t + 2 ^ t → (k ≡ 0) ⊎ (2 ^ t ≤ q) → value t (k * 2 ^ t + q) < value t (suc (k * 2 ^ t + q))
step-at t k q h s =
    let e : value t (k * 2 ^ t + q) ≡ q * 2 ^ k = value-at t k q (le_of_lt h) s in
    let g : (k ≡ 0) ⊎ (2 ^ t ≤ suc q) = ⊎_elim (λ z. inl z) (λ l. inr (omega arith)) s in
    let f : value t (suc (k * 2 ^ t + q)) ≡ suc q * 2 ^ k = ap (value t) (omega arith) ∙ value-at t k (suc q) h g in
    omega (arith, pow_pos k)

value-step : (t c : ℕ) → value t c < value t (suc c)
value-step t c = go (c / 2 ^ t) (c % 2 ^ t) (mod-lt c (pow_pos t)) (split c t)
  where
    go : (x f : ℕ) → f < 2 ^ t → x * 2 ^ t + f ≡ c → value t c < value t (suc c)
    go zero f l e = subst (λ (z : ℕ). value t z < value t (suc z)) e (step-at t 0 f (omega arith) (inl refl))
    go (suc y) f l e = subst (λ (z : ℕ). value t z < value t (suc z)) (omega arith) (step-at t y (2 ^ t + f) (omega arith) (inr (omega arith)))

pub value-lt : (t a b : ℕ) → a < b → value t a < value t b
value-lt t a b h = let g = le_dest h in subst (λ (z : ℕ). value t a < value t z) g.1 (go g.0)
  where
    go : (k : ℕ) → value t a < value t (suc a + k)
    go zero = subst (λ (z : ℕ). value t a < value t z) (omega arith) (value-step t a)
    go (suc k) =
        subst (λ (z : ℕ). value t a < value t z) (omega arith) (lt_of_lt_of_le (go k) (le_of_lt (value-step t (suc a + k))))

pub value-le : (t a b : ℕ) → a ≤ b → value t a ≤ value t b
value-le t a b h = ⊎_elim (λ e. le_of_eq (ap (value t) e)) (λ l. le_of_lt (value-lt t a b l)) (eq-or-lt_of_le h)

neither : (a b : ℕ) → (a < b → ⊥) → (b < a → ⊥) → a ≡ b
neither a b g h = omega arith

pub value-injective : (t a b : ℕ) → value t a ≡ value t b → a ≡ b
value-injective t a b e = neither a b (λ l. omega (arith, value-lt t a b l)) (λ l. omega (arith, value-lt t b a l))

-- ---- the infinity's pattern: it is even, and as the pattern of one more exponent it has the value 2 ^ (emax + 1)
two-le : (w : ℕ) → 0 < w → 2 ≤ 2 ^ w
two-le w h = pow_mono {i = 1} {j = w} h

infinity-pos : (t w : ℕ) → 0 < w → 0 < infinity t w
infinity-pos t w W = mul-pos (let h = two-le w W in omega arith) (pow_pos t)

infinity-even : (t w : ℕ) → 0 < t → infinity t w % 2 ≡ 0
infinity-even t w T = ap (λ (z : ℕ). z % 2) (sym (add-zero (infinity t w))) ∙ even_sum t (2 ^ w - 1) 0 T refl

pub infinity-value : (t w : ℕ) → 0 < w → value t (infinity t w) ≡ 2 ^ (t + 2 ^ w - 2)
infinity-value t w W =
    let h = two-le w W in
    let k = 2 ^ w - 2 in
    ap (value t) (ap (λ (z : ℕ). z * 2 ^ t) {x = 2 ^ w - 1} {y = suc k} (omega arith) ∙ suc-mul k (2 ^ t))
    ∙ value-at t k (2 ^ t) (omega arith) (inr (le_refl (2 ^ t)))
    ∙ sym (pow-add 2 t k)
    ∙ ap (λ (z : ℕ). 2 ^ z) (omega arith)

-- ---- the threshold as 4.3.1 writes it, 2 ^ emax * (2 - 2 ^ (1 - p) / 2): twice that is 2 ^ (t + 2 ^ w - 2) * 2 - 2 ^ (2 ^ w - 3) units
last-value : (t k : ℕ) → value t (suc (suc k) * 2 ^ t - 1) ≡ (2 ^ t + 2 ^ t - 1) * 2 ^ k
last-value t k =
    let h = pow_pos t in
    ap (value t) (omega arith) ∙ value-at t k (2 ^ t + 2 ^ t - 1) (omega arith) (inr (omega arith))

one_less : (t k : ℕ) → (2 ^ t + 2 ^ t - 1) * 2 ^ k + 2 ^ k ≡ 2 ^ (suc t + k)
one_less t k =
    let h = pow_pos t in
    sym (suc-mul (2 ^ t + 2 ^ t - 1) (2 ^ k))
    ∙ ap (λ (z : ℕ). z * 2 ^ k) {x = suc (2 ^ t + 2 ^ t - 1)} {y = 2 ^ suc t} (omega arith)
    ∙ sym (pow-add 2 (suc t) k)

pub threshold-is : (t w : ℕ) → 1 < w → twice_threshold t w + 2 ^ (2 ^ w - 3) ≡ 2 ^ (t + 2 ^ w - 2) * 2
threshold-is t w W =
    let h : 4 ≤ 2 ^ w = pow_mono {i = 2} {j = w} W in
    let k = 2 ^ w - 3 in
    let s : 2 ^ w - 1 ≡ suc (suc k) = omega arith in
    let l : value t (infinity t w - 1) ≡ (2 ^ t + 2 ^ t - 1) * 2 ^ k = ap (λ (z : ℕ). value t (z * 2 ^ t - 1)) s ∙ last-value t k in
    let e : 2 ^ (suc t + k) ≡ 2 ^ (t + 2 ^ w - 2) = ap (λ (z : ℕ). 2 ^ z) (omega arith) in
    omega (arith, one_less t k)

-- in binary16 it is 65520
pub half-threshold : twice_threshold 10 5 ≡ 65520 * 2 ^ 24 * 2
unfolding magnitude
half-threshold = refl

-- ---- `near` rounds
module _ (t w n d : ℕ) (T : 0 < t) (W : 0 < w) (D : 0 < d) where
  abbrev top : ℕ
  top = infinity t w

  abbrev p : ℕ
  p = pattern t n d

  abbrev largest : ℕ
  largest = value t (top - 1)

  twice-is : twice_threshold t w * d ≡ largest * d + value t top * d
  twice-is = ap (λ (z : ℕ). (largest + z) * d) (sym (infinity-value t w W)) ∙ omega arith

  gap : largest * d < value t top * d
  gap = mul-lt-mul_of_pos_right (value-lt t (top - 1) top (let h = infinity-pos t w W in omega arith)) D

  -- From the threshold on 2 ^ (emax + 1) is no farther from n / d than a finite value. At a tie p would be the largest finite pattern, which is odd.
  not_finite : twice_threshold t w * d ≤ 2 * n → p < top → ⊥
  not_finite h l =
      let b = unbounded t n d D T in
      let v : value t p ≤ largest = value-le t p (top - 1) (omega arith) in
      let m : value t p * d ≤ largest * d = mul-le-mul_right d v in
      let near-top : dist n (value t p * d) ≤ dist n (value t top * d) = b.close top in
      let tie : dist n (value t p * d) ≡ dist n (value t top * d) = omega (arith, twice-is, gap) in
      let far : value t p * d ≡ largest * d = omega (arith, twice-is, gap) in
      ⊎_elim
      (λ e. omega (arith, gap, ap (λ (z : ℕ). z * d) e))
      (λ e. omega (arith, infinity-even t w T, infinity-pos t w W, value-injective t p (top - 1) (cancel d (value t p) largest D far)))
      (b.even top tie)

  -- below the threshold the largest finite value is nearer than 2 ^ (emax + 1)
  not_infinite : 2 * n < twice_threshold t w * d → top ≤ p → ⊥
  not_infinite h l =
      let m : value t top * d ≤ value t p * d = mul-le-mul_right d (value-le t top p l) in
      omega (arith, twice-is, gap, (unbounded t n d D T).close (top - 1))

  pub near-rounded : Rounded t w n d (near t w n d)
  near-rounded = record { over = λ h. near-is t w n d ∙ over (dec_le top p) h; below = λ h. under (dec_le top p) h }
    where
      over : Dec (top ≤ p) → twice_threshold t w * d ≤ 2 * n → min p top ≡ top
      over (yes l) h = min-eq_right l
      over (no l) h = absurd (not_finite h (lt_of_not-le l))

      under : Dec (top ≤ p) → 2 * n < twice_threshold t w * d → Nearest t w n d (near t w n d)
      under (yes l) h = absurd (not_infinite h l)
      under (no l) h =
          let g : p < top = lt_of_not-le l in
          let b = unbounded t n d D T in
          subst (λ (z : ℕ). Nearest t w n d z) (sym (near-is t w n d ∙ min-eq_left (le_of_lt g)))
          (record {
            finite = g;
            close = λ c i. b.close c;
            even = λ c i e. ⊎_elim (λ v. inl (value-injective t c p v)) (λ z. inr z) (b.even c e);
          })

-- ---- no other pattern is `Rounded`
-- Two nearest patterns are as near as each other, so both are even, and a pattern between them is nearer than either.
not_lower : (t w n d r s : ℕ) → 0 < d → Nearest t w n d r → Nearest t w n d s → r < s → ⊥
not_lower t w n d r s D a b l =
    let e : dist n (value t r * d) ≡ dist n (value t s * d) = le_antisymm (a.close s b.finite) (b.close r a.finite) in
    go e (a.even s b.finite e) (b.even r a.finite (sym e))
  where
    go : dist n (value t r * d) ≡ dist n (value t s * d) → (s ≡ r) ⊎ (r % 2 ≡ 0) → (r ≡ s) ⊎ (s % 2 ≡ 0) → ⊥
    go e (inl z) y = omega arith
    go e (inr x) (inl z) = omega arith
    go e (inr x) (inr y) =
        let m : suc r < s = omega arith in
        let lower : value t r * d < value t (suc r) * d = mul-lt-mul_of_pos_right (value-lt t r (suc r) (lt-suc_self r)) D in
        let upper : value t (suc r) * d < value t s * d = mul-lt-mul_of_pos_right (value-lt t (suc r) s m) D in
        omega (arith, a.close (suc r) (lt_of_le_of_lt (le_of_lt m) b.finite))

nearest-unique : (t w n d r s : ℕ) → 0 < d → Nearest t w n d r → Nearest t w n d s → r ≡ s
nearest-unique t w n d r s D a b = neither r s (not_lower t w n d r s D a b) (not_lower t w n d s r D b a)

pub rounded-unique : (t w n d r s : ℕ) → 0 < d → Rounded t w n d r → Rounded t w n d s → r ≡ s
rounded-unique t w n d r s D a b = go (dec_le (twice_threshold t w * d) (2 * n))
  where
    go : Dec (twice_threshold t w * d ≤ 2 * n) → r ≡ s
    go (yes h) = a.over h ∙ sym (b.over h)
    go (no h) = let l = lt_of_not-le h in nearest-unique t w n d r s D (a.below l) (b.below l)

-- ---- a value that the format holds is rounded to its own pattern
pub near-held : (t w c n : ℕ) → 0 < t → 0 < w → c < infinity t w → value t c ≡ n → near t w n 1 ≡ c
near-held t w c n T W l e =
    let h : value t c ≤ value t (infinity t w - 1) = value-le t c (infinity t w - 1) (omega arith) in
    let r = (near-rounded t w n 1 T W (le_refl 1)).below (omega (arith, twice-is t w n 1 T W (le_refl 1), gap t w n 1 T W (le_refl 1))) in
    value-injective t (near t w n 1) c (omega (arith, r.close c l))
