-- Sizes of blocks and tables.
use mathlib.Core.Path.{◌≡◌, ap, ◌∙◌}
use Prim.Native.Nat.{ℕ, ◌+◌, ◌*◌, ◌/◌, ◌%◌, ◌^◌, ◌≤◌, ◌<◌}
use native.Mathlib.Nat.{mul_assoc, mul-le-mul_left, mul-le-mul_right, add-mul, mod-eq_of_lt, one-mul, lt_of_le_of_lt, le_trans}
use native.Mathlib.Omega.{arith}
use lib.Dec.{lit<}
use lib.Pow.{pow_pos, pow_mono, pow-lt}
use Rattle.codes.specs.Packing.{bytes_per_vector}

-- eight codes are as many bytes as a code has bits
pub block_size : (w q : ℕ) → q % 8 ≡ 0 → bytes_per_vector w q ≡ q / 8 * w
unfolding bytes_per_vector
block_size w q e =
    let whole : q ≡ 8 * (q / 8) = omega arith in
    let bits : q * w ≡ 8 * (q / 8 * w) = ap (λ (z : ℕ). z * w) whole ∙ mul_assoc 8 (q / 8) w in
    omega arith

-- the blocks of the first slots are within those of all
pub within : (a b size n : ℕ) → a ≤ b → b * size ≤ n → a * size ≤ n
within a b size n l h = le_trans (mul-le-mul_right size l) h

pub slot-within : (i b size n : ℕ) → i < b → b * size ≤ n → i * size + size ≤ n
slot-within i b size n l h = let up : (i + 1) * size ≤ n = within (i + 1) b size n (omega arith) h in omega (arith, add-mul i 1 size, one-mul size)

-- a power of two, as a shift gives it
pub shifted : (k : ℕ) → k ≤ 12 → 1 * 2 ^ k % 2 ^ 64 ≡ 2 ^ k
shifted k h = ap (λ (z : ℕ). z % 2 ^ 64) (one-mul (2 ^ k)) ∙ mod-eq_of_lt (pow-lt {j = 64} (lt_of_le_of_lt h (lit< tt)))

-- how many levels a width has, as a shift gives it
pub record Levels (w levels : ℕ) : Type 0 where
  pub is : levels ≡ 2 ^ w
  pub some : 0 < levels
  pub square : levels * levels ≡ 2 ^ w * 2 ^ w
  pub most : levels * levels ≤ 4096

pub levels-of : (w : ℕ) → w ≤ 6 → Levels w (1 * 2 ^ w % 2 ^ 64)
levels-of w h =
    let e = shifted w (omega arith) in
    let m : 2 ^ w ≤ 64 = pow_mono {j = 6} h in
    record { is = e; some = rw e (pow_pos w); square = rw e; most = rw e (le_trans (mul-le-mul_left (2 ^ w) m) (mul-le-mul_right 64 m)) }

-- how many pairs of codes there are
pub record Base (w base : ℕ) : Type 0 where
  pub is : base ≡ 2 ^ (w + w)
  pub some : 0 < base
  pub most : base ≤ 4096

pub base-of : (w : ℕ) → w ≤ 6 → Base w (1 * 2 ^ (w + w) % 2 ^ 64)
base-of w h =
    let e = shifted (w + w) (omega arith) in
    record { is = e; some = rw e (pow_pos (w + w)); most = rw e (pow_mono {j = 12} (omega arith)) }

-- at 4 bits: whole groups of eight bytes, a byte for each two entries
pub byte-groups : (w q size : ℕ) → w ≡ 4 → q % 16 ≡ 0 → size ≡ q / 8 * w → (size % 8 ≡ 0) × (size ≤ q / 2)
byte-groups w q size e f s =
    let eights : q / 8 ≡ 2 * (q / 16) = omega arith in
    let bytes : size ≡ 8 * (q / 16) = s ∙ rw e (omega arith) in
    (omega arith, omega arith)
