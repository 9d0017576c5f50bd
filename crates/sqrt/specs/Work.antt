-- What the private functions promise each other.
use Rattle.std.specs.Prelude.{◌≡◌, ℕ, ◌+◌, ◌*◌, ◌^◌, ◌≤◌, ◌<◌}

-- m has the 24 digits of a binary32 significand, and e is below what the exponent's field of the infinity would make it
pub record Normal (m e : ℕ) : Type 0 where
  pub above : 2 ^ 23 ≤ m
  pub below : m < 2 ^ 24
  pub small : e < 380

-- n is p * 4 ^ k, and p has 47 or 48 digits: the root of n is that of p, whose whole part has 24 digits, times 2 ^ k
pub record Scaled (n p k : ℕ) : Type 0 where
  pub is : n ≡ p * 4 ^ k
  pub above : 2 ^ 46 ≤ p
  pub below : p < 2 ^ 48
  pub small : k < 190

-- q is the largest whole number whose square is at most p
pub record WholeRoot (p q : ℕ) : Type 0 where
  pub low : q ^ 2 ≤ p
  pub high : p < (q + 1) ^ 2
