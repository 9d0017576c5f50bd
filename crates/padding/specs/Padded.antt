-- The padded dimension. 01 (rhdh.rs): "`padded_dim` is the next power of two."
use Rattle.std.specs.Prelude.{Bool, cond, ◌≡◌, ℕ, ◌-◌, ◌^◌, ◌≤◌, eqb, leb}
use Rattle.std.specs.Float.Ieee.{size}

-- the least k whose power of two is at or above n: as many binary digits as n - 1 has
unfoldable pub exponent : ℕ → ℕ
exponent n = size (n - 1)

-- the next power of two, 1 for 0, and 0 above 2 ^ 63, where the next one is no usize
unfoldable pub padded_dim : ℕ → ℕ
padded_dim dim = cond (leb dim (2 ^ 63)) (2 ^ exponent dim) 0

-- n is its own next power of two
unfoldable pub is_power_of_two : ℕ → Bool
is_power_of_two n = eqb (2 ^ exponent n) n

-- what `padded_dim` means up to 2 ^ 63, by a law of proofs/Powers.antt: p is the least power of two at or above n
pub record LeastPower (n p : ℕ) : Type 0 where
  pub power : (k : ℕ) × (p ≡ 2 ^ k)
  pub reaches : n ≤ p
  pub least : (k : ℕ) → n ≤ 2 ^ k → p ≤ 2 ^ k
