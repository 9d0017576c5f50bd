-- square_root at binary32 (IEEE 754-2019, 5.4.1), over whole numbers: "every square root is the binary32 nearest to the exact one" (document 01, store.rs).
-- Magnitudes are counted in units of 2 ^ -149, binary32's smallest positive value; `value 23 b` of the crate `half` is that of the pattern b. The root of n units is,
-- in units, the root of n * 2 ^ 149, since n * 2 ^ -149 is (n * 2 ^ 149) * (2 ^ -149) ^ 2.
use Rattle.std.specs.Prelude.{◌≡◌, ℕ, zero, suc, ◌+◌, ◌*◌, ◌^◌, ◌<◌, Bool, true, false, cond, leb, ltb, eqb, Float}
use Rattle.std.specs.Float.{nan, inf, binary32}
use Rattle.std.specs.Float.Ieee.{of_bits, to_bits, lt, eq}
use Rattle.half.specs.Binary.{unsigned, infinity}
use Rattle.half.specs.Nearest.{value}

-- ---- the pattern nearest to a root

-- the number whose root is, in units, the root of the value of the pattern b
abbrev pub radicand : ℕ → ℕ
radicand b = value 23 b * 2 ^ 149

-- Whether the root of n lies above the middle between the value of the pattern c and the value before it. Twice that middle is the sum of the two values, so the
-- square of the sum stands beside 4 * n. There is no value before 0.
unfoldable pub root_reaches : ℕ → ℕ → Bool
root_reaches n zero = true
root_reaches n (suc c) = ltb ((value 23 c + value 23 (suc c)) ^ 2) (4 * n)

-- The last number that passes a test, among the 2 ^ d numbers from s on, where s passes it and no number passes after one that fails: found by halving.
unfoldable pub last_passing : (ℕ → Bool) → ℕ → ℕ → ℕ
last_passing passes zero s = s
last_passing passes (suc d) s = last_passing passes d (cond (passes (s + 2 ^ d)) (s + 2 ^ d) s)

-- the pattern, without its sign, of the value nearest to the root of n
unfoldable pub nearest_root : ℕ → ℕ
nearest_root n = last_passing (root_reaches n) 31 0

-- ---- the root of any pattern

-- In the order of the lines: the root of a NaN is a NaN (6.2.3), each zero is its own root (5.4.1), the root of anything else below 0 is a NaN (7.2, g), and that of
-- the infinity is the infinity (6.1). Any other is finite and above 0.
unfoldable pub root_bits : ℕ → ℕ
root_bits b =
    cond (ltb (infinity 23 8) (unsigned 23 8 b)) 0x7FC0_0000
    (cond (eqb (unsigned 23 8 b) 0) b
    (cond (leb (2 ^ 31) b) 0x7FC0_0000
    (cond (eqb b (infinity 23 8)) b (nearest_root (radicand b)))))

-- the same of a float
unfoldable pub square_root : Float → Float
square_root x = of_bits binary32 (root_bits (to_bits binary32 x))

-- ---- what it means

-- The pattern r is that of a finite value above 0, and the root of n is on this value's side of the middle between it and every other value. No root is a middle, so
-- both bounds are strict: r is the nearest alone, and no rule for ties is used. By `nearest-unique` of `proofs/Nearest.antt` no other pattern meets these bounds.
-- c is any number: from the infinity's pattern on it stands for a value past the largest, as if the exponents went on.
pub record NearestRoot (n r : ℕ) : Type 0 where
  pub positive : 0 < r
  pub finite : r < infinity 23 8
  pub above : (c : ℕ) → value 23 r < value 23 c → 4 * n < (value 23 r + value 23 c) ^ 2
  pub below : (c : ℕ) → value 23 c < value 23 r → (value 23 r + value 23 c) ^ 2 < 4 * n

-- r is the root of x. `of_bits binary32 0` is +0: -0 equals it, and the negative infinity is below it. By `square-root` of `proofs/Floats.antt` every binary32 x has
-- such a root, `square_root x`.
pub record SquareRoot (x r : Float) : Type 0 where
  pub is : r ≡ square_root x
  pub of_nan : x ≡ nan → r ≡ nan
  pub of_negative : lt x (of_bits binary32 0) ≡ true → r ≡ nan
  pub of_zero : eq x (of_bits binary32 0) ≡ true → r ≡ x
  pub of_infinity : x ≡ inf false → r ≡ x
  pub of_positive : lt (of_bits binary32 0) x ≡ true → lt x (inf false) ≡ true → NearestRoot (radicand (to_bits binary32 x)) (to_bits binary32 r)
