-- Laws of the order number, for binary32 scores: they are ordered by value (`OrderedByValue`). A caller needs these only, and not what the number is.
use mathlib.Core.Path.{◌≡◌, refl, sym, ap, ◌∙◌, subst}
use mathlib.Core.Logic.{◌⊎◌, inl, inr, ⊎_elim}
use mathlib.Core.Bool.{Bool, true, false, cond, beq, ◌&&◌, ◌||◌}
use Prim.Native.Nat.{ℕ, zero, suc, ◌+◌, ◌-◌, ◌*◌, ◌/◌, ◌%◌, ◌^◌, ◌≤◌, ◌<◌}
use native.Mathlib.Nat.{le_trans, le_of_eq, le_of_lt, lt_of_le_of_lt, lt_irrefl, eq-or-lt_of_le, add_assoc, suc-mul, mul_right_comm, mul-le-mul_right, le_of_mul-le-mul_right, le-div_iff_mul-le, pow-succ'}
use native.Mathlib.Omega.{arith}
use borrow.Author.Tests.{le-leb, lt-leb, ltb-false, eq-eqb, ne_eqb}
use lib.Dec.{T, eqb, eqb_refl, eqb→eq, ltb→lt}
use lib.IntN.{pos}
use lib.Pow.{pow-add, pow_pos, shr_mono}
use lib.Ieee.{Float, nan, inf, fin, binary32, up, down, size, lt, eq, neg, fits, is_nan, of_bits, to_bits}
use lib.Ieee.Digits.{size-lt, size-le, size_reaches}
use lib.Ieee.Fits.{kept-lt, neg-fits, down_pos, and_i}
use lib.Ieee.Nearest.{div_mono}
use lib.Ieee.Bits.{of_bits-to_bits, to_bits-lt, nan_bits_is, nan_bits_above}
use Rattle.score.specs.Order.{order_of_bits, ranked_bits, order_number, OrderedByValue}

-- ---- a magnitude of n of the smallest values is written with its q + 1 leading digits, below the number of digits dropped

abbrev written : ℕ → ℕ → ℕ
written q n = (size n - suc q) * 2 ^ q + n / 2 ^ (size n - suc q)

fewer : (x y p : ℕ) → x ≤ y → x - p ≤ y - p
fewer x y p h = omega arith

dropped : (z q : ℕ) → 0 < z - suc q → q + (z - suc q) < z
dropped z q h = omega arith

positive : (j k : ℕ) → j < k → 0 < k
positive j k h = omega arith

-- x < 2 h digits kept over j h, y ≥ h digits kept over k h
next_up : (jh kh h x y : ℕ) → jh + h ≤ kh → x < 2 * h → h ≤ y → jh + x ≤ kh + y
next_up jh kh h x y a b c = omega arith

written-mono : (q a b : ℕ) → a ≤ b → written q a ≤ written q b
written-mono q a b h =
    let j = size a - suc q in
    let k = size b - suc q in
    elim (eq-or-lt_of_le (fewer (size a) (size b) (suc q) (size-le a (size b) (lt_of_le_of_lt h (size-lt b))))) [
      | inl e ↦ subst (λ (x : ℕ). j * 2 ^ q + a / 2 ^ j ≤ x * 2 ^ q + b / 2 ^ x) e (same j)
      | inr l ↦
          next_up (j * 2 ^ q) (k * 2 ^ q) (2 ^ q) (a / 2 ^ j) (b / 2 ^ k)
          (le_trans (le_of_eq (sym (suc-mul j (2 ^ q)))) (mul-le-mul_right (2 ^ q) l))
          (subst (λ (x : ℕ). a / 2 ^ j < x) (pow-succ' 2 q) (kept-lt (suc q) a))
          ((le-div_iff_mul-le (pow_pos k)).1 (le_trans (le_of_eq (sym (pow-add 2 q k))) (size_reaches b (q + k) (dropped (size b) q (positive j k l)))))
    ]
  where
    same : (i : ℕ) → i * 2 ^ q + a / 2 ^ i ≤ i * 2 ^ q + b / 2 ^ i
    same i = let m : a / 2 ^ i ≤ b / 2 ^ i = shr_mono i h in omega arith

-- ---- a score's pattern is its sign's bit and the rest

abbrev negative : Float → Bool
negative nan = false
negative (inf s) = s
negative (fin s m e) = s

abbrev rest : Float → ℕ
rest nan = 0x7FC0_0000
rest (inf s) = 0x7F80_0000
rest (fin s m e) = written 23 (m * up e * 2 ^ 149 / down e)

pattern-is : (x : Float) → to_bits binary32 x ≡ cond (negative x) (2 ^ 31) 0 + rest x
unfolding to_bits
pattern-is nan = refl
pattern-is (inf s) = refl
pattern-is (fin s m e) = add_assoc (cond s (2 ^ 31) 0) _ _

rest_lt : (x : Float) → T (fits binary32 x) → rest x < 2 ^ 31
unfolding neg
rest_lt nan h = omega arith
rest_lt (inf s) h = omega arith
rest_lt (fin true m e) h = let b : 2 ^ 31 + rest (fin true m e) < 2 * 2 ^ 31 = rw (pattern-is (fin true m e)) at (to_bits-lt binary32 (fin true m e) h) in omega arith
rest_lt (fin false m e) h =
    let b : 2 ^ 31 + rest (fin true m e) < 2 * 2 ^ 31 = rw (pattern-is (fin true m e)) at (to_bits-lt binary32 (fin true m e) (neg-fits binary32 (fin false m e) h)) in
    omega arith

rest_below : (b r : ℕ) (s : Bool) → b ≡ cond s (2 ^ 31) 0 + r → r < 2 ^ 31 → b % 2 ^ 31 ≡ r
rest_below b r true e h = omega arith
rest_below b r false e h = omega arith

-- no number's pattern is above the infinity's
rest_le : (x : Float) → T (fits binary32 x) → is_nan x ≡ false → rest x ≤ 0x7F80_0000
rest_le x h n =
    let b = to_bits binary32 x in
    subst (λ (r : ℕ). r ≤ 0x7F80_0000) (rest_below b (rest x) (negative x) (pattern-is x) (rest_lt x h))
    (ltb-false 0x7F80_0000 (b % 2 ^ 31) (sym (nan_bits_above binary32 b) ∙ nan_bits_is binary32 b ∙ ap is_nan (of_bits-to_bits binary32 x h) ∙ n))

same-pattern : (x y : Float) → T (fits binary32 x) → T (fits binary32 y) → negative x ≡ negative y → rest x ≡ rest y → x ≡ y
same-pattern x y hx hy s r =
    sym (of_bits-to_bits binary32 x hx)
    ∙ ap (of_bits binary32) (pattern-is x ∙ ap (λ (b : Bool). cond b (2 ^ 31) 0 + rest x) s ∙ ap (λ (n : ℕ). cond (negative y) (2 ^ 31) 0 + n) r ∙ sym (pattern-is y))
    ∙ of_bits-to_bits binary32 y hy

-- ---- zeros: what has no rest is one of the two

abbrev zero_of : (negative : Bool) → Float
zero_of s = of_bits binary32 (cond s (2 ^ 31) 0 + 0)

is_zero : (x : Float) → T (fits binary32 x) → rest x ≡ 0 → x ≡ zero_of (negative x)
is_zero x h e = sym (of_bits-to_bits binary32 x h) ∙ ap (of_bits binary32) (pattern-is x ∙ ap (λ (r : ℕ). cond (negative x) (2 ^ 31) 0 + r) e)

zeros-level : (s t : Bool) → T (eq (zero_of s) (zero_of t))
unfolding eq of_bits
zeros-level true true = tt
zeros-level true false = tt
zeros-level false true = tt
zeros-level false false = tt

zeros-not-below : (s t : Bool) → T (lt (zero_of s) (zero_of t)) → ⊥
unfolding lt of_bits
zeros-not-below true true l = l
zeros-not-below true false l = l
zeros-not-below false true l = l
zeros-not-below false false l = l

-- ---- the number by sign and rest

ranked-zero : (b : ℕ) → b ≡ 2 ^ 31 → ranked_bits b ≡ 0
unfolding ranked_bits
ranked-zero b e = rw (eq-eqb b (2 ^ 31) e)

ranked-other : (b : ℕ) → (b ≡ 2 ^ 31 → ⊥) → ranked_bits b ≡ b
unfolding ranked_bits
ranked-other b n = rw (ne_eqb b (2 ^ 31) n)

-- by the program's test: bits above -0's are inverted, of all others the top bit is set, whether or not it was
pub inverted : (score : Float) (b : ℕ) → b ≡ to_bits binary32 score → 2 ^ 31 < b → 2 ^ 32 - 1 - b ≡ order_number score
unfolding order_of_bits
inverted score b e h = rw (← e, ranked-other b (λ z. omega arith), le-leb (2 ^ 31) b (omega arith))

pub top_set : (score : Float) (b : ℕ) → b ≡ to_bits binary32 score → b ≤ 2 ^ 31 → b % 2 ^ 31 + 2 ^ 31 ≡ order_number score
unfolding order_of_bits
top_set score b e h =
    elim (eq-or-lt_of_le h) [
      | inl z ↦ rw (← e, ranked-zero b z) (rw z refl)
      | inr l ↦ rw (← e, ranked-other b (λ z. omega arith), lt-leb (2 ^ 31) b l) (omega arith)
    ]

abbrev numbered : Bool → ℕ → ℕ
numbered true zero = 2 ^ 31
numbered true (suc r) = 2 ^ 31 - 1 - suc r
numbered false r = r + 2 ^ 31

number_of : (x : Float) → rest x < 2 ^ 31 → order_number x ≡ numbered (negative x) (rest x)
number_of x l = go (negative x) (rest x) (pattern-is x) l
  where
    go : (s : Bool) (r : ℕ) → to_bits binary32 x ≡ cond s (2 ^ 31) 0 + r → r < 2 ^ 31 → order_number x ≡ numbered s r
    go true zero e l = sym (top_set x (2 ^ 31) (sym e ∙ omega arith) (omega arith)) ∙ omega arith
    go true (suc r) e l = sym (inverted x (2 ^ 31 + suc r) (sym e) (omega arith)) ∙ omega arith
    go false r e l = sym (top_set x (0 + r) (sym e) (omega arith)) ∙ omega arith

number_is : (x : Float) → T (fits binary32 x) → order_number x ≡ numbered (negative x) (rest x)
number_is x h = number_of x (rest_lt x h)

-- ---- what a comparison says of the two signs and rests

abbrev Ranked : Bool → ℕ → Bool → ℕ → Type 0
Ranked false a false b = a ≤ b
Ranked false a true b = ⊥
Ranked true a false b = Unit
Ranked true a true b = b ≤ a

finite-mono : (s t : Bool) (m n : ℕ) (e d : _) → m * up e * down d ≤ n * up d * down e → rest (fin s m e) ≤ rest (fin t n d)
finite-mono s t m n e d h =
    written-mono 23 _ _
    (div_mono (m * up e * 2 ^ 149) (down e) (n * up d * 2 ^ 149) (down d) (down_pos e) (down_pos d)
    (le_trans (le_of_eq (mul_right_comm (m * up e) (2 ^ 149) (down d))) (le_trans (mul-le-mul_right (2 ^ 149) h) (le_of_eq (mul_right_comm (n * up d) (down e) (2 ^ 149))))))

ranked : (x y : Float) → T (fits binary32 x) → T (fits binary32 y) → T (lt x y) → Ranked (negative x) (rest x) (negative y) (rest y)
unfolding lt is_nan
ranked nan y hx hy l = absurd l
ranked (inf false) nan hx hy l = absurd l
ranked (inf false) (inf t) hx hy l = absurd l
ranked (inf false) (fin t n d) hx hy l = absurd l
ranked (inf true) nan hx hy l = absurd l
ranked (inf true) (inf true) hx hy l = absurd l
ranked (inf true) (inf false) hx hy l = tt
ranked (inf true) (fin false n d) hx hy l = tt
ranked (inf true) (fin true n d) hx hy l = rest_le (fin true n d) hy refl
ranked (fin s m e) nan hx hy l = absurd l
ranked (fin s m e) (inf true) hx hy l = absurd l
ranked (fin false m e) (inf false) hx hy l = rest_le (fin false m e) hx refl
ranked (fin true m e) (inf false) hx hy l = tt
ranked (fin false m e) (fin true n d) hx hy l = absurd l
ranked (fin false m e) (fin false n d) hx hy l = finite-mono false false m n e d (le_of_lt (ltb→lt _ _ l))
ranked (fin true m e) (fin false n d) hx hy l = tt
ranked (fin true m e) (fin true n d) hx hy l = finite-mono true true n m d e (le_of_lt (ltb→lt _ _ l))

numbered-lt : (s t : Bool) (a b : ℕ) → Ranked s a t b → (s ≡ t → a ≡ b → ⊥) → (a ≡ 0 → b ≡ 0 → ⊥) → a < 2 ^ 31 → b < 2 ^ 31 → numbered s a < numbered t b
numbered-lt false false a b r n z ha hb = let d : a ≡ b → ⊥ = n refl in omega arith
numbered-lt false true a b r n z ha hb = absurd r
numbered-lt true false zero zero r n z ha hb = absurd (z refl refl)
numbered-lt true false zero (suc b) r n z ha hb = omega arith
numbered-lt true false (suc a) b r n z ha hb = omega arith
numbered-lt true true zero b r n z ha hb = absurd (n refl (omega arith))
numbered-lt true true (suc a) zero r n z ha hb = omega arith
numbered-lt true true (suc a) (suc b) r n z ha hb = let d : suc a ≡ suc b → ⊥ = n refl in omega arith

numbered-eq : (s t : Bool) (a b : ℕ) → numbered s a ≡ numbered t b → a < 2 ^ 31 → b < 2 ^ 31 → ((s ≡ t) × (a ≡ b)) ⊎ ((a ≡ 0) × (b ≡ 0))
numbered-eq false false a b e ha hb = inl (refl, omega arith)
numbered-eq false true a zero e ha hb = inr (omega arith, refl)
numbered-eq false true a (suc b) e ha hb = absurd (omega arith)
numbered-eq true false zero b e ha hb = inr (refl, omega arith)
numbered-eq true false (suc a) b e ha hb = absurd (omega arith)
numbered-eq true true zero zero e ha hb = inl (refl, refl)
numbered-eq true true zero (suc b) e ha hb = absurd (omega arith)
numbered-eq true true (suc a) zero e ha hb = absurd (omega arith)
numbered-eq true true (suc a) (suc b) e ha hb = inl (refl, omega arith)

numbered-same : (s t : Bool) (a b : ℕ) → a ≡ b → (s ≡ t) ⊎ (a ≡ 0) → numbered s a ≡ numbered t b
numbered-same s t a b e (inl q) = λ i. numbered (q i) (e i)
numbered-same s t a b e (inr z) = ap (numbered s) z ∙ both s t ∙ ap (numbered t) (sym z ∙ e)
  where
    both : (s t : Bool) → numbered s 0 ≡ numbered t 0
    both true true = refl
    both true false = refl
    both false true = refl
    both false false = refl

never-below-itself : (x : Float) → T (lt x x) → ⊥
unfolding lt
never-below-itself nan l = l
never-below-itself (inf true) l = l
never-below-itself (inf false) l = l
never-below-itself (fin true m e) l = lt_irrefl (m * up e * down e) (ltb→lt _ _ l)
never-below-itself (fin false m e) l = lt_irrefl (m * up e * down e) (ltb→lt _ _ l)

pub level-with-itself : (x : Float) → is_nan x ≡ false → T (eq x x)
unfolding eq is_nan
level-with-itself nan n = absurd (subst T n tt)
level-with-itself (inf true) n = tt
level-with-itself (inf false) n = tt
level-with-itself (fin s m e) n = let a = m * up e * down e in and_i (eqb a a) (beq s s || eqb a 0) (eqb_refl a) (same s)
  where
    same : (s : Bool) → T (beq s s || eqb (m * up e * down e) 0)
    same true = tt
    same false = tt

-- ---- what an equality by value says of them

and_parts : (p q : Bool) → T (p && q) → T p × T q
and_parts true true h = (tt, tt)
and_parts true false h = absurd h
and_parts false q h = absurd h

record Level (x y : Float) : Type 0 where
  pub rests : rest x ≡ rest y
  pub signs : (negative x ≡ negative y) ⊎ (rest x ≡ 0)

no-rest : (s : Bool) (m : ℕ) (e d : _) → m * up e * down d ≡ 0 → rest (fin s m e) ≡ 0
unfolding size
no-rest s m e d z =
    let none : m * up e * down d ≤ 0 * down d = omega arith in
    let nothing : m * up e ≤ 0 = le_of_mul-le-mul_right none (down_pos d) in
    let l : rest (fin s m e) ≤ rest (fin s 0 (pos 0)) = finite-mono s s m 0 e (pos 0) (omega arith) in
    omega arith

level : (x y : Float) → T (eq x y) → Level x y
unfolding eq
level nan y l = absurd l
level (inf s) nan l = absurd l
level (inf true) (inf true) l = record { rests = refl; signs = inl refl }
level (inf true) (inf false) l = absurd l
level (inf false) (inf true) l = absurd l
level (inf false) (inf false) l = record { rests = refl; signs = inl refl }
level (inf s) (fin t n d) l = absurd l
level (fin s m e) nan l = absurd l
level (fin s m e) (inf t) l = absurd l
level (fin s m e) (fin t n d) l =
    let a = m * up e * down d in
    let b = n * up d * down e in
    let parts = and_parts (eqb a b) (beq s t || eqb a 0) l in
    let same : a ≡ b = eqb→eq a b parts.0 in
    record {
      rests = between (finite-mono s t m n e d (le_of_eq same)) (finite-mono t s n m d e (le_of_eq (sym same)));
      signs = by s t parts.1;
    }
  where
    between : {a b : ℕ} → a ≤ b → b ≤ a → a ≡ b
    between p q = omega arith

    by : (s t : Bool) → T (beq s t || eqb (m * up e * down d) 0) → (s ≡ t) ⊎ (rest (fin s m e) ≡ 0)
    by true true h = inl refl
    by true false h = inr (no-rest true m e d (eqb→eq _ 0 h))
    by false true h = inr (no-rest false m e d (eqb→eq _ 0 h))
    by false false h = inl refl

-- ---- the laws

module _ (x y : Float) (hx : T (fits binary32 x)) where
  -- scores that are equal by value, both zeros too, have the same number
  pub same_number : T (eq x y) → order_number x ≡ order_number y
  same_number e =
      let l = level x y e in
      number_is x hx ∙ numbered-same (negative x) (negative y) (rest x) (rest y) l.rests l.signs
      ∙ sym (number_of y (subst (λ (r : ℕ). r < 2 ^ 31) l.rests (rest_lt x hx)))

module _ (x y : Float) (hx : T (fits binary32 x)) (hy : T (fits binary32 y)) where
  -- a score below another has the lower number
  pub lower-number : T (lt x y) → order_number x < order_number y
  lower-number l =
      rw (number_is x hx, number_is y hy)
      (numbered-lt (negative x) (negative y) (rest x) (rest y) (ranked x y hx hy l)
      (λ s r. never-below-itself x (subst (λ (z : Float). T (lt x z)) (sym (same-pattern x y hx hy s r)) l))
      (λ a b. zeros-not-below (negative x) (negative y) (subst (λ (z : Float). T (lt z (zero_of (negative y)))) (is_zero x hx a) (subst (λ (z : Float). T (lt x z)) (is_zero y hy b) l)))
      (rest_lt x hx)
      (rest_lt y hy))

  -- equal numbers are of scores that are equal by value
  pub equal-scores : is_nan x ≡ false → order_number x ≡ order_number y → T (eq x y)
  equal-scores n e =
      ⊎_elim (λ same. subst (λ (z : Float). T (eq x z)) (same-pattern x y hx hy same.0 same.1) (level-with-itself x n))
      (λ zeros.
      subst (λ (z : Float). T (eq z y)) (sym (is_zero x hx zeros.0))
      (subst (λ (z : Float). T (eq (zero_of (negative x)) z)) (sym (is_zero y hy zeros.1)) (zeros-level (negative x) (negative y))))
      (numbered-eq (negative x) (negative y) (rest x) (rest y) (sym (number_is x hx) ∙ e ∙ number_is y hy) (rest_lt x hx) (rest_lt y hy))

module _ (x : Float) (hx : T (fits binary32 x)) where
  pub number-positive : is_nan x ≡ false → 0 < order_number x
  number-positive n = rw (number_is x hx) (go (negative x) (rest x) (rest_le x hx n))
    where
      go : (s : Bool) (r : ℕ) → r ≤ 0x7F80_0000 → 0 < numbered s r
      go true zero l = omega arith
      go true (suc r) l = omega arith
      go false r l = omega arith

  pub number_fits : order_number x < 2 ^ 32
  number_fits = rw (number_is x hx) (go (negative x) (rest x) (rest_lt x hx))
    where
      go : (s : Bool) (r : ℕ) → r < 2 ^ 31 → numbered s r < 2 ^ 32
      go true zero l = omega arith
      go true (suc r) l = omega arith
      go false r l = omega arith

pub ordered-by-value : OrderedByValue
ordered-by-value x y hx hy n =
    record {
      lower = lower-number x y hx hy;
      equal = same_number x y hx;
      no-others = equal-scores x y hx hy n;
      from-1 = number-positive x hx n;
      to-32-bits = number_fits x hx;
    }
