-- The sign by the output's top bit; and that every state of a sign stream is above 0 and below 2 ^ 64.
use Rattle.std.proofs.Common.{◌≡◌, ℕ, zero, suc, ◌+◌, ◌*◌, ◌/◌, ◌%◌, ◌^◌, ◌<◌, ◌≤◌, true, false, [], ◌∷◌, get_or, pos, sym, refl, ap, ◌∙◌, suc-le-suc, zero-le, lt_of_le_of_lt, mod-lt, mod-eq_of_lt, zero-lt-suc, mul-le-mul_left, pow-suc, arith, lit<, pow_pos, pow_mono, le-ltb, lt-ltb, ne_eqb}
use native.Mathlib.Nat.{mod-one, div-eq_of_lt, mul-mod_left}
use native.Mathlib.Decide.{dec_lt}
use lib.Bits.{bit_xor, xor_lt, xor_add_and, and_le_l, and_le_r}
use lib.Ieee.{Float, fin, binary32, neg, of_bits}
use lib.Pow.{shr_le, split, mod-mod-pow}
use Rattle.signs.specs.Signs.{start, xor_right, xor_left, next_state, sign, state}

-- ---- the sign of an output o

-- the sign as the entry of two that the top bit numbers
pub sign_by_top : (d : Float) (o : ℕ) → o < 2 ^ 64 → get_or (neg (of_bits binary32 0x3F80_0000) ∷ of_bits binary32 0x3F80_0000 ∷ []) (o / 2 ^ 63) d ≡ sign o
unfolding sign neg of_bits
sign_by_top d o h = go (dec_lt o (2 ^ 63))
  where
    go : Dec (o < 2 ^ 63) → get_or (fin true 1 (pos 0) ∷ fin false 1 (pos 0) ∷ []) (o / 2 ^ 63) d ≡ sign o
    go (yes l) = rw (lt-ltb o (2 ^ 63) l, div-eq_of_lt l)
    go (no l) = let top : o / 2 ^ 63 ≡ 1 = omega arith in rw (le-ltb o (2 ^ 63) (omega arith), top)

-- ---- a step stays below 2 ^ 64

right_lt : (k s : ℕ) → s < 2 ^ 64 → xor_right k s < 2 ^ 64
unfolding xor_right
right_lt k s h = xor_lt 64 s (s / 2 ^ k) h (lt_of_le_of_lt (shr_le s k) h)

left_lt : (k s : ℕ) → s < 2 ^ 64 → xor_left k s < 2 ^ 64
unfolding xor_left
left_lt k s h = xor_lt 64 s (s * 2 ^ k % 2 ^ 64) h (mod-lt (s * 2 ^ k) (pow_pos 64))

pub step-lt : (s : ℕ) → s < 2 ^ 64 → next_state s < 2 ^ 64
unfolding next_state
step-lt s h = right_lt 27 _ (left_lt 25 _ (right_lt 12 s h))

-- ---- a step comes to 0 only from 0

xor-zero : (a b : ℕ) → bit_xor a b ≡ 0 → a ≡ b
xor-zero a b e = omega (arith, xor_add_and a b, and_le_l a b, and_le_r a b)

right_zero : (k s : ℕ) → xor_right (suc k) s ≡ 0 → s ≡ 0
unfolding xor_right
right_zero k s e =
    let m : s * 2 ≤ s * 2 ^ suc k = mul-le-mul_left s (pow_mono {i = 1} (suc-le-suc zero-le)) in
    omega (arith, split s (suc k), ap (λ (z : ℕ). z * 2 ^ suc k) (xor-zero s (s / 2 ^ suc k) e))

-- A number that a shift to the left keeps, modulo 2 ^ w, has no digit below 2 ^ w: where its j lowest digits are 0, the digit above them came from one of those.
low-zero : (k w a : ℕ) → a ≡ a * 2 ^ suc k % 2 ^ w → (j i : ℕ) → i + j ≡ w → a % 2 ^ j ≡ 0
low-zero k w a e zero i s = mod-one a
low-zero k w a e (suc j) i s =
    let c = a / 2 ^ j in
    let d : c * 2 ^ j ≡ a = omega (arith, split a j, low-zero k w a e j (suc i) (omega arith)) in
    ap (λ (z : ℕ). z % 2 ^ suc j) (e ∙ ap (λ (z : ℕ). a * 2 ^ suc k % 2 ^ z) (sym s))
    ∙ mod-mod-pow (a * 2 ^ suc k) i (suc j)
    ∙ ap (λ (z : ℕ). z % 2 ^ suc j) (rw (pow-suc 2 k, pow-suc 2 j) (omega (arith, ap (λ (z : ℕ). z * 2 ^ k) d)))
    ∙ mul-mod_left (c * 2 ^ k) (2 ^ suc j)

left-zero : (k s : ℕ) → s < 2 ^ 64 → xor_left (suc k) s ≡ 0 → s ≡ 0
unfolding xor_left
left-zero k s h e = sym (mod-eq_of_lt h) ∙ low-zero k 64 s (xor-zero s (s * 2 ^ suc k % 2 ^ 64) e) 64 0 refl

pub step-pos : (s : ℕ) → 0 < s → s < 2 ^ 64 → 0 < next_state s
unfolding next_state
step-pos s p h =
    let nonzero : next_state s ≡ 0 → ⊥ = λ e. let z = right_zero 11 s (left-zero 24 _ (right_lt 12 s h) (right_zero 26 _ e)) in omega arith in
    omega (arith, nonzero)

-- ---- so no state is 0

start-range : (seed : ℕ) → seed < 2 ^ 64 → (0 < start seed) × (start seed < 2 ^ 64)
unfolding start
start-range zero h = (lit< tt, lit< tt)
start-range (suc n) h = rw (ne_eqb (suc n) 0 (λ e. omega arith)) (zero-lt-suc n, h)

pub state-range : (seed n : ℕ) → seed < 2 ^ 64 → (0 < state seed n) × (state seed n < 2 ^ 64)
state-range seed zero h = start-range seed h
state-range seed (suc n) h =
    let r = state-range seed n h in
    (step-pos (state seed n) r.0 r.1, step-lt (state seed n) r.1)
