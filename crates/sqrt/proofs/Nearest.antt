-- Which pattern is nearest to a root: only `nearest_root n` meets the bounds of `NearestRoot n`, and where the root lies between the values of two neighbours, the one on
-- its side of their middle meets them.
use mathlib.Core.Path.{◌≡◌, refl, sym, ◌∙◌}
use mathlib.Core.Bool.{Bool, true, false, cond}
use Prim.Native.Nat.{ℕ, zero, suc, ◌+◌, ◌*◌, ◌^◌, ◌≤◌, ◌<◌}
use native.Mathlib.Nat.{le_trans, le_of_eq, le_of_lt, le_of_suc-le-suc, lt_of_not-le, not-le_of_lt, lt_of_lt_of_le, lt_of_le_of_lt, mul-le-mul_left, mul-lt-mul_of_pos_left, zero-lt-suc}
use native.Mathlib.Decide.{dec_le}
use native.Mathlib.Omega.{arith}
use borrow.Author.Tests.{lt-ltb, le-ltb}
use Rattle.std.proofs.lemmas.Nat.{mul-pow}
use Rattle.half.specs.Binary.{infinity}
use Rattle.half.specs.Nearest.{value}
use Rattle.half.proofs.Rounding.{value-lt, value-le}
use Rattle.sqrt.specs.Root.{root_reaches, last_passing, nearest_root, NearestRoot}
use Rattle.sqrt.proofs.Squares.{square_le, square-lt}

-- ---- `last_passing` gives the number up to which the test is passed and after which it fails
module _ (passes : ℕ → Bool) (g : ℕ) (to : (c : ℕ) → c ≤ g → passes c ≡ true) (after : (c : ℕ) → g < c → passes c ≡ false) where
  halved : (d s : ℕ) → ((z : ℕ) → z ≤ g → g < z + 2 ^ d → last_passing passes d z ≡ g) → s ≤ g → g < s + 2 ^ suc d → Dec (s + 2 ^ d ≤ g)
      → last_passing passes d (cond (passes (s + 2 ^ d)) (s + 2 ^ d) s) ≡ g
  halved d s rest a b (yes h) = rw (to (s + 2 ^ d) h) (rest (s + 2 ^ d) h (omega arith))
  halved d s rest a b (no f) = rw (after (s + 2 ^ d) (lt_of_not-le f)) (rest s a (lt_of_not-le f))

  last-is : (d s : ℕ) → s ≤ g → g < s + 2 ^ d → last_passing passes d s ≡ g
  unfolding last_passing
  last-is zero s a b = omega arith
  last-is (suc d) s a b = halved d s (last-is d) a b (dec_le (s + 2 ^ d) g)

-- ---- a pattern that meets the bounds is the one that is found
module _ (n r : ℕ) (m : NearestRoot n r) where
  reached : (c : ℕ) → c ≤ r → root_reaches n c ≡ true
  unfolding root_reaches
  reached zero h = refl
  reached (suc c) h =
      let v = value-le 23 (suc c) r h in
      lt-ltb _ _ (lt_of_le_of_lt (square_le {a = value 23 c + value 23 (suc c)} (omega arith)) (m.below c (value-lt 23 c r h)))

  passed-by : (c : ℕ) → r < c → root_reaches n c ≡ false
  unfolding root_reaches
  passed-by zero h = absurd (omega arith)
  passed-by (suc c) h =
      let v = value-le 23 r c (le_of_suc-le-suc h) in
      le-ltb _ _ (le_of_lt (lt_of_lt_of_le (m.above (suc c) (value-lt 23 r (suc c) h)) (square_le (omega arith))))

  pub nearest-is : nearest_root n ≡ r
  unfolding nearest_root
  nearest-is = last-is (root_reaches n) r reached passed-by 31 0 (omega arith) (omega (arith, m.finite))

-- the bounds determine the pattern
pub nearest-unique : (n r s : ℕ) → NearestRoot n r → NearestRoot n s → r ≡ s
nearest-unique n r s a b = sym (nearest-is n r a) ∙ nearest-is n s b

-- ---- one of two neighbours
pattern_lt : (c d : ℕ) → value 23 c < value 23 d → c < d
pattern_lt c d h = lt_of_not-le (λ g. not-le_of_lt h (value-le 23 d c g))

module _ (n g : ℕ) (positive : 0 < g) (finite : suc g < infinity 23 8) (low : value 23 g ^ 2 ≤ n) (high : n < value 23 (suc g) ^ 2) where
  pub at-lower : 4 * n < (value 23 g + value 23 (suc g)) ^ 2 → NearestRoot n g
  at-lower h = record {
    positive = positive;
    finite = omega arith;
    above = λ c l. lt_of_lt_of_le h (square_le (omega (arith, value-le 23 (suc g) c (pattern_lt g c l))));
    below = λ c l. lt_of_lt_of_le (square-lt {b = 2 * value 23 g} (omega arith)) (le_trans (le_of_eq (mul-pow 2 (value 23 g) 2)) (mul-le-mul_left 4 low));
  }

  pub at-upper : (value 23 g + value 23 (suc g)) ^ 2 < 4 * n → NearestRoot n (suc g)
  at-upper h = record {
    positive = zero-lt-suc g;
    finite = finite;
    above = λ c l. lt_of_lt_of_le (mul-lt-mul_of_pos_left high (zero-lt-suc 3)) (le_trans (le_of_eq (sym (mul-pow 2 (value 23 (suc g)) 2))) (square_le (omega arith)));
    below = λ c l. lt_of_le_of_lt (square_le (omega (arith, value-le 23 c g (le_of_suc-le-suc (pattern_lt c (suc g) l))))) h;
  }
