-- What rounding to nearest gives (IEEE 754-2019, 4.3.1 and 7.4), in any format and said without how it is worked out.
use Rattle.std.specs.Prelude.{◌≡◌, ◌⊎◌, ℕ, ◌+◌, ◌-◌, ◌*◌, ◌/◌, ◌%◌, ◌^◌, ◌≤◌, ◌<◌}
use Rattle.half.specs.Binary.{magnitude, infinity}

-- the magnitude of a pattern without its sign, in units
abbrev pub value : ℕ → ℕ → ℕ
value t b = magnitude t (b / 2 ^ t) (b % 2 ^ t)

-- how far a and b are apart: a difference that would be below 0 is 0
abbrev pub dist : ℕ → ℕ → ℕ
dist a b = (a - b) + (b - a)

-- Twice the overflow threshold, in units. The threshold is the midpoint between the largest finite value, whose pattern is the one before the
-- infinity's, and 2 ^ (emax + 1), which is 2 ^ (t + 2 ^ w - 2) units. 4.3.1 writes it 2 ^ emax * (2 - 2 ^ (1 - p) / 2), where p is t + 1. In
-- binary16 it is 65520.
abbrev pub twice_threshold : (t w : ℕ) → ℕ
twice_threshold t w = value t (infinity t w - 1) + 2 ^ (t + 2 ^ w - 2)

-- r is the finite pattern whose value is nearest to n / d units: no finite pattern's value is nearer, and where that of another is as near, r is
-- the even one (4.3.1). The distances are taken d times, so that they are whole.
pub record Nearest (t w n d r : ℕ) : Type 0 where
  pub finite : r < infinity t w
  pub close : (c : ℕ) → c < infinity t w → dist n (value t r * d) ≤ dist n (value t c * d)
  pub even : (c : ℕ) → c < infinity t w → dist n (value t r * d) ≡ dist n (value t c * d) → (c ≡ r) ⊎ (r % 2 ≡ 0)

-- r is the pattern without its sign that n / d units are rounded to: the infinity from the threshold on, and below it the nearest finite pattern.
-- `proofs/Rounding.antt` proves that `near` gives such an r, and that there is no other.
pub record Rounded (t w n d r : ℕ) : Type 0 where
  pub over : twice_threshold t w * d ≤ 2 * n → r ≡ infinity t w
  pub below : 2 * n < twice_threshold t w * d → Nearest t w n d r
