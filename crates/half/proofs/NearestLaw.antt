-- The pattern that `near` works out is nearest, a tie to the even one, among the patterns of all exponents, as if the format had no largest value.
-- `Rounding.antt` has the rest: the infinity.
use mathlib.Core.Path.{◌≡◌, refl, sym, ap, ap₂, ◌∙◌, subst}
use mathlib.Core.Logic.{◌⊎◌, inl, inr, ⊎_elim}
use Prim.Native.Nat.{ℕ, zero, suc, ◌+◌, ◌-◌, ◌*◌, ◌/◌, ◌%◌, ◌^◌, ◌≤◌, ◌<◌, compare, min}
use native.Mathlib.Nat.{le_antisymm, le_of_mul-le-mul_right, le_trans, le_of_eq, lt_of_lt_of_le, lt_of_not-le, le-div_iff_mul-le}
use native.Mathlib.Nat.{mod-lt, add-zero, mul_assoc, mul_comm, mul_left_comm, mul-one, suc-mul, add-sub_of_le, mul-pos}
use native.Mathlib.Nat.{div-add-mod', div-div-eq-div-mul, two-pow-succ, mul-le-mul_right, mul-le-mul_left, mul-lt-mul_of_pos_right}
use native.Mathlib.Decide.{dec_le}
use native.Mathlib.Omega.{arith}
use lib.Arith.{digits_div, digits_mod}
use lib.Pow.{pow-add, pow_pos, pow_mono}
use lib.Ieee.{size}
use lib.Ieee.Digits.{size_reaches}
use lib.Ieee.Nearest.{closest, nearest-ge}
use lib.Ieee.Fits.{nearest-le, kept-lt}
use Rattle.half.specs.Binary.{magnitude, infinity, kept, near}
use Rattle.half.specs.Nearest.{value, dist}
use Rattle.half.proofs.Near.{closest-down, closest-tie, closest-up}

double : (a k : ℕ) → a * 2 ^ suc k ≡ (a + a) * 2 ^ k
double a k = rw (two-pow-succ k) (omega arith)

-- ---- the value of k * 2 ^ t + q
pub value-fields : (t x f : ℕ) → f < 2 ^ t → value t (x * 2 ^ t + f) ≡ magnitude t x f
value-fields t x f h = ap₂ (λ (a b : ℕ). magnitude t a b) (digits_div x h) (digits_mod x h)

value_low : (t q : ℕ) → q < 2 ^ t → value t (0 * 2 ^ t + q) ≡ q
unfolding magnitude
value_low t q h = value-fields t 0 q h

value-full : (t k q : ℕ) → 2 ^ t ≤ q → q < 2 ^ t + 2 ^ t → value t (k * 2 ^ t + q) ≡ q * 2 ^ k
unfolding magnitude
value-full t k q lo hi =
    ap (value t) {x = k * 2 ^ t + q} {y = suc k * 2 ^ t + (q - 2 ^ t)} (omega (arith, suc-mul k (2 ^ t)))
    ∙ value-fields t (suc k) (q - 2 ^ t) (omega arith)
    ∙ ap (λ (z : ℕ). z * 2 ^ k) (add-sub_of_le lo)

value-next : (t k : ℕ) → value t (k * 2 ^ t + (2 ^ t + 2 ^ t)) ≡ (2 ^ t + 2 ^ t) * 2 ^ k
unfolding magnitude
value-next t k =
    ap (value t) {x = k * 2 ^ t + (2 ^ t + 2 ^ t)} {y = suc (suc k) * 2 ^ t + 0} (omega arith)
    ∙ value-fields t (suc (suc k)) 0 (pow_pos t)
    ∙ ap (λ (z : ℕ). z * 2 ^ suc k) (add-zero (2 ^ t))
    ∙ double (2 ^ t) k

-- q has t + 1 digits, or is the next number after those; or k is 0 and it has fewer
pub value-at : (t k q : ℕ) → q ≤ 2 ^ t + 2 ^ t → (k ≡ 0) ⊎ (2 ^ t ≤ q) → value t (k * 2 ^ t + q) ≡ q * 2 ^ k
value-at t k q h s = go (dec_le (2 ^ t) q) (dec_le (2 ^ t + 2 ^ t) q) s
  where
    go : Dec (2 ^ t ≤ q) → Dec (2 ^ t + 2 ^ t ≤ q) → (k ≡ 0) ⊎ (2 ^ t ≤ q) → value t (k * 2 ^ t + q) ≡ q * 2 ^ k
    go (yes a) (yes b) s =
        let e : q ≡ 2 ^ t + 2 ^ t = omega arith in
        subst (λ (z : ℕ). value t (k * 2 ^ t + z) ≡ z * 2 ^ k) (sym e) (value-next t k)
    go (yes a) (no b) s = value-full t k q a (lt_of_not-le b)
    go (no a) b (inl e) = subst (λ (z : ℕ). value t (z * 2 ^ t + q) ≡ q * 2 ^ z) (sym e) (value_low t q (lt_of_not-le a) ∙ sym (mul-one q))
    go (no a) b (inr l) = absurd (a l)

-- ---- every value is below 2 ^ t * 2 ^ k or a multiple of 2 ^ k
pub grid : (t k c : ℕ) → (value t c < 2 ^ t * 2 ^ k) ⊎ ((m : ℕ) × (value t c ≡ m * 2 ^ k))
unfolding magnitude
grid t k c = go (c / 2 ^ t) (c % 2 ^ t) (mod-lt c (pow_pos t))
  where
    up : (y f : ℕ) → f < 2 ^ t → Dec (k ≤ y) → ((2 ^ t + f) * 2 ^ y < 2 ^ t * 2 ^ k) ⊎ ((m : ℕ) × ((2 ^ t + f) * 2 ^ y ≡ m * 2 ^ k))
    up y f h (yes l) =
        let e : 2 ^ y ≡ 2 ^ (y - k) * 2 ^ k = ap (λ (z : ℕ). 2 ^ z) {x = y} {y = y - k + k} (omega arith) ∙ pow-add 2 (y - k) k in
        inr ((2 ^ t + f) * 2 ^ (y - k), ap (λ (z : ℕ). (2 ^ t + f) * z) e ∙ sym (mul_assoc (2 ^ t + f) (2 ^ (y - k)) (2 ^ k)))
    up y f h (no n) =
        let g : 2 ^ t + f < 2 ^ t + 2 ^ t = omega arith in
        inl (lt_of_lt_of_le (mul-lt-mul_of_pos_right g (pow_pos y))
        (le_trans (le_of_eq (sym (double (2 ^ t) y))) (mul-le-mul_left (2 ^ t) (pow_mono (lt_of_not-le n)))))

    go : (x f : ℕ) → f < 2 ^ t → (magnitude t x f < 2 ^ t * 2 ^ k) ⊎ ((m : ℕ) × (magnitude t x f ≡ m * 2 ^ k))
    go zero f h = inl (lt_of_lt_of_le h (le_trans (le_of_eq (sym (mul-one (2 ^ t)))) (mul-le-mul_left (2 ^ t) (pow_pos k))))
    go (suc y) f h = up y f h (dec_le k y)

-- ---- `closest n u` among the multiples of u
record Best (n u q : ℕ) : Type 0 where
  close : (m : ℕ) → dist n (q * u) ≤ dist n (m * u)
  even : (m : ℕ) → dist n (q * u) ≡ dist n (m * u) → (m * u ≡ q * u) ⊎ (q % 2 ≡ 0)

-- a * u ≤ n < a * u + u, and a multiple of u is at most a * u or at least a * u + u
pub sides : (a u m : ℕ) → (m * u ≤ a * u) ⊎ (a * u + u ≤ m * u)
sides a u m = go (dec_le m a)
  where
    go : Dec (m ≤ a) → (m * u ≤ a * u) ⊎ (a * u + u ≤ m * u)
    go (yes h) = inl (mul-le-mul_right u h)
    go (no h) = inr (le_trans (le_of_eq (omega (arith, suc-mul a u))) (mul-le-mul_right u (lt_of_not-le h)))

module _ (n u : ℕ) (U : 0 < u) where
  abbrev a : ℕ
  a = n / u

  abbrev r : ℕ
  r = n % u

  whole : a * u + r ≡ n
  whole = div-add-mod' n u

  at_a : r * 2 ≤ u → (r * 2 ≡ u → a % 2 ≡ 0) → Best n u a
  at_a h ev =
      let l = mod-lt n U in
      record {
        close = λ m. ⊎_elim (λ s. omega (arith, whole)) (λ s. omega (arith, whole)) (sides a u m);
        even = λ m e. ⊎_elim (λ s. inl (omega (arith, whole))) (λ s. inr (ev (omega (arith, whole)))) (sides a u m);
      }

  at_suc : u ≤ r * 2 → (r * 2 ≡ u → suc a % 2 ≡ 0) → Best n u (suc a)
  at_suc h ev =
      let l = mod-lt n U in
      let e = suc-mul a u in
      record {
        close = λ m. ⊎_elim (λ s. omega (arith, whole)) (λ s. omega (arith, whole)) (sides a u m);
        even = λ m e. ⊎_elim (λ s. inr (ev (omega (arith, whole)))) (λ s. inl (omega (arith, whole))) (sides a u m);
      }

  tie : r * 2 ≡ u → (b : ℕ) → a % 2 ≡ b → b < 2 → Best n u (a + b)
  tie e zero p h = subst (λ (z : ℕ). Best n u z) (sym (add-zero a)) (at_a (omega arith) (λ x. p))
  tie e (suc zero) p h = subst (λ (z : ℕ). Best n u z) (omega arith) (at_suc (omega arith) (λ x. omega arith))
  tie e (suc (suc b)) p h = absurd (omega arith)

  best : Best n u (closest n u)
  best = go (dec_le u (r * 2)) (dec_le (r * 2) u)
    where
      go : Dec (u ≤ r * 2) → Dec (r * 2 ≤ u) → Best n u (closest n u)
      go (no f) s =
          let l : r * 2 < u = lt_of_not-le f in
          subst (λ (z : ℕ). Best n u z) (sym (closest-down n u l)) (at_a (omega arith) (λ e. absurd (omega arith)))
      go (yes g) (yes h) =
          let e : r * 2 ≡ u = omega arith in
          subst (λ (z : ℕ). Best n u z) (sym (closest-tie n u e)) (tie e (a % 2) refl (omega arith))
      go (yes g) (no f) =
          let l : u < r * 2 = lt_of_not-le f in
          subst (λ (z : ℕ). Best n u z) (sym (closest-up n u l)) (at_suc g (λ e. absurd (omega arith)))

-- ---- among the values of all patterns
pub record Unbounded (t n d r : ℕ) : Type 0 where
  pub close : (c : ℕ) → dist n (value t r * d) ≤ dist n (value t c * d)
  pub even : (c : ℕ) → dist n (value t r * d) ≡ dist n (value t c * d) → (value t c ≡ value t r) ⊎ (r % 2 ≡ 0)

-- below y, which n has reached, everything is farther from n than y
farther : (n y z far : ℕ) → z < y → y ≤ n → far ≤ dist n y → far ≡ dist n z → ⊥
farther n y z far a b c e = omega arith

pub even_sum : (t k q : ℕ) → 0 < t → q % 2 ≡ 0 → (k * 2 ^ t + q) % 2 ≡ 0
even_sum zero k q h e = absurd (omega arith)
even_sum (suc t) k q h e = omega (arith, double k t)

pub cancel : (d x y : ℕ) → 0 < d → x * d ≡ y * d → x ≡ y
cancel d x y D e = le_antisymm (le_of_mul-le-mul_right (le_of_eq e) D) (le_of_mul-le-mul_right (le_of_eq (sym e)) D)

-- ---- what `near` works out of n / d units: how many digits it drops, what it keeps, and the pattern
abbrev pub drops : (t n d : ℕ) → ℕ
drops t n d = size (n / d) - suc t

abbrev pub keeps : (t n d : ℕ) → ℕ
keeps t n d = closest n (d * 2 ^ drops t n d)

abbrev pub pattern : (t n d : ℕ) → ℕ
pattern t n d = drops t n d * 2 ^ t + keeps t n d

pub near-is : (t w n d : ℕ) → near t w n d ≡ min (pattern t n d) (infinity t w)
unfolding near kept
near-is t w n d = refl

module _ (t n d : ℕ) (D : 0 < d) where
  abbrev k : ℕ
  k = drops t n d

  abbrev u : ℕ
  u = d * 2 ^ k

  abbrev q : ℕ
  q = keeps t n d

  abbrev p : ℕ
  p = pattern t n d

  u-pos : 0 < u
  u-pos = mul-pos D (pow_pos k)

  q-most : q ≤ 2 ^ t + 2 ^ t
  q-most =
      le_trans (nearest-le (n / u) (compare (n % u * 2) u))
      (le_trans (subst (λ (z : ℕ). z < 2 ^ suc t) (div-div-eq-div-mul n d (2 ^ k)) (kept-lt (suc t) (n / d))) (le_of_eq (two-pow-succ t)))

  -- where digits are dropped, n / u has t + 1 digits
  filled : (k ≡ 0) ⊎ (2 ^ t * u ≤ n)
  filled = go (dec_le (size (n / d)) (suc t))
    where
      go : Dec (size (n / d) ≤ suc t) → (k ≡ 0) ⊎ (2 ^ t * u ≤ n)
      go (yes h) = inl (omega arith)
      go (no f) =
          let l : suc t < size (n / d) = lt_of_not-le f in
          let r : 2 ^ (t + k) * d ≤ n = (le-div_iff_mul-le D).0 (size_reaches (n / d) (t + k) (omega arith)) in
          inr (le_trans (le_of_eq (simp (pow-add, mul_assoc, mul_comm, mul_left_comm))) r)

  q-least : (k ≡ 0) ⊎ (2 ^ t ≤ q)
  q-least = ⊎_elim (λ e. inl e) (λ h. inr (le_trans ((le-div_iff_mul-le u-pos).1 h) (nearest-ge (n / u) (compare (n % u * 2) u)))) filled

  -- m * 2 ^ k units, taken d times
  times : (m : ℕ) → m * 2 ^ k * d ≡ m * u
  times m = mul_assoc m (2 ^ k) d ∙ ap (λ (z : ℕ). m * z) (mul_comm (2 ^ k) d)

  pub pattern-value : value t (pattern t n d) ≡ keeps t n d * 2 ^ drops t n d
  pattern-value = value-at t k q q-most q-least

  value-is : value t p * d ≡ q * u
  value-is = ap (λ (z : ℕ). z * d) pattern-value ∙ times q

  -- a value is a multiple of u / d, or is below the first that n has reached
  reach : (c : ℕ) → ((m : ℕ) × (value t c * d ≡ m * u)) ⊎ ((value t c * d < 2 ^ t * u) × (2 ^ t * u ≤ n))
  reach c = go filled (grid t k c)
    where
      go : (k ≡ 0) ⊎ (2 ^ t * u ≤ n) → (value t c < 2 ^ t * 2 ^ k) ⊎ ((m : ℕ) × (value t c ≡ m * 2 ^ k))
          → ((m : ℕ) × (value t c * d ≡ m * u)) ⊎ ((value t c * d < 2 ^ t * u) × (2 ^ t * u ≤ n))
      go s (inr (m, e)) = inl (m, ap (λ (z : ℕ). z * d) e ∙ times m)
      go (inl z) (inl l) =
          let e : value t c ≡ value t c * 2 ^ k = sym (ap (λ (y : ℕ). value t c * 2 ^ y) z ∙ mul-one (value t c)) in
          inl (value t c, ap (λ (z : ℕ). z * d) e ∙ times (value t c))
      go (inr h) (inl l) = inr (lt_of_lt_of_le (mul-lt-mul_of_pos_right l D) (le_of_eq (times (2 ^ t))), h)

  pub unbounded : 0 < t → Unbounded t n d (pattern t n d)
  unbounded h =
      let b = best n u u-pos in
      record {
        close =
            λ c.
            subst (λ (z : ℕ). dist n z ≤ dist n (value t c * d)) (sym value-is)
            (⊎_elim (λ g. subst (λ (z : ℕ). dist n (q * u) ≤ dist n z) (sym g.1) (b.close g.0))
            (λ g. le_trans (b.close (2 ^ t)) (omega (arith, g)))
            (reach c));
        even =
            λ c e.
            let f : dist n (q * u) ≡ dist n (value t c * d) = subst (λ (z : ℕ). dist n z ≡ dist n (value t c * d)) value-is e in
            ⊎_elim
            (λ g.
            ⊎_elim (λ z. inl (cancel d (value t c) (value t p) D (g.1 ∙ z ∙ sym value-is))) (λ z. inr (even_sum t k q h z))
            (b.even g.0 (subst (λ (z : ℕ). dist n (q * u) ≡ dist n z) g.1 f)))
            (λ g. absurd (farther n (2 ^ t * u) (value t c * d) (dist n (q * u)) g.0 g.1 (b.close (2 ^ t)) f))
            (reach c);
      }
