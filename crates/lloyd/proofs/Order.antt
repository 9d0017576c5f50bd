-- The order of IEEE 754: `lt` is transitive, and no value is below itself or below a NaN. Nothing is asked of the values, NaNs and infinities included.
use mathlib.Core.Path.{◌≡◌, refl, sym, ◌∙◌, subst}
use Prim.Native.Nat.{ℕ, ◌+◌, ◌*◌, ◌<◌, zero-le}
use native.Mathlib.Nat.{le_refl, lt_of_le_of_lt, mul-pos, zero-mul, mul_right_comm, mul-lt-mul_of_pos_right, lt_of_mul-lt-mul_right}
use native.Mathlib.Omega.{arith}
use mathlib.Core.Bool.{Bool, true, false, false≢true}
use borrow.Author.Tests.{ltb-true, lt-ltb, le-ltb}
use lib.Ieee.{Float, nan, inf, fin, up, down, lt, below}
use lib.Ieee.Fits.{down_pos}

-- x / a is below y / b, and that below z / c
cross : (x a y b z c : ℕ) → 0 < a → 0 < c → x * b < y * a → y * c < z * b → x * c < z * a
cross x a y b z c A C h k =
    let p : x * b * c < y * a * c = mul-lt-mul_of_pos_right h C in
    let q : y * c * a < z * b * a = mul-lt-mul_of_pos_right k A in
    lt_of_mul-lt-mul_right b (omega (arith, mul_right_comm x b c, mul_right_comm y c a, mul_right_comm z b a))

-- z / c is above y / b, so it is above 0
above : (y b z c a : ℕ) → 0 < a → y * c < z * b → 0 < z * a
above y b z c a A h =
    mul-pos (lt_of_mul-lt-mul_right b (subst (λ (n : ℕ). n < z * b) (sym (zero-mul b)) (lt_of_le_of_lt zero-le h))) A

finite : (s t u : Bool) (x a y b z c : ℕ) → 0 < a → 0 < c → below s (x * b) t (y * a) ≡ true → below t (y * c) u (z * b) ≡ true
    → below s (x * c) u (z * a) ≡ true
finite false false false x a y b z c A C p q = lt-ltb _ _ (cross x a y b z c A C (ltb-true _ _ p) (ltb-true _ _ q))
finite true true true x a y b z c A C p q = lt-ltb _ _ (cross z c y b x a C A (ltb-true _ _ q) (ltb-true _ _ p))
finite true false false x a y b z c A C p q = lt-ltb 0 (x * c + z * a) (omega (arith, above y b z c a A (ltb-true _ _ q)))
finite true true false x a y b z c A C p q = lt-ltb 0 (x * c + z * a) (omega (arith, above y b x a c C (ltb-true _ _ p)))
finite false true u x a y b z c A C p q = absurd (false≢true p)
finite false false true x a y b z c A C p q = absurd (false≢true q)
finite true false true x a y b z c A C p q = absurd (false≢true q)

infinity-on-top : (x : Float) → lt (inf false) x ≡ false
unfolding lt
infinity-on-top nan = refl
infinity-on-top (inf t) = refl
infinity-on-top (fin t n d) = refl

infinity-at-bottom : (x : Float) → lt x (inf true) ≡ false
unfolding lt
infinity-at-bottom nan = refl
infinity-at-bottom (inf true) = refl
infinity-at-bottom (inf false) = refl
infinity-at-bottom (fin s m e) = refl

pub none-below-nan : (x : Float) → lt x nan ≡ false
unfolding lt
none-below-nan nan = refl
none-below-nan (inf s) = refl
none-below-nan (fin s m e) = refl

pub none-below-itself : (x : Float) → lt x x ≡ false
unfolding lt
none-below-itself nan = refl
none-below-itself (inf true) = refl
none-below-itself (inf false) = refl
none-below-itself (fin true m e) = le-ltb (m * up e * down e) (m * up e * down e) (le_refl _)
none-below-itself (fin false m e) = le-ltb (m * up e * down e) (m * up e * down e) (le_refl _)

pub lt_trans : (x y z : Float) → lt x y ≡ true → lt y z ≡ true → lt x z ≡ true
unfolding lt
lt_trans nan y z p q = absurd (false≢true p)
lt_trans (inf false) y z p q = absurd (false≢true (sym (infinity-on-top y) ∙ p))
lt_trans (inf true) y nan p q = absurd (false≢true (sym (none-below-nan y) ∙ q))
lt_trans (inf true) y (inf true) p q = absurd (false≢true (sym (infinity-at-bottom y) ∙ q))
lt_trans (inf true) y (inf false) p q = refl
lt_trans (inf true) y (fin u k g) p q = refl
lt_trans (fin s m e) nan z p q = absurd (false≢true p)
lt_trans (fin s m e) (inf true) z p q = absurd (false≢true p)
lt_trans (fin s m e) (inf false) z p q = absurd (false≢true (sym (infinity-on-top z) ∙ q))
lt_trans (fin s m e) (fin t n d) nan p q = absurd (false≢true q)
lt_trans (fin s m e) (fin t n d) (inf u) p q = q
lt_trans (fin s m e) (fin t n d) (fin u k g) p q =
    finite s t u (m * up e) (down e) (n * up d) (down d) (k * up g) (down g) (down_pos e) (down_pos g) p q
