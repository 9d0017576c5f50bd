-- A query's top bits in two arrays, of its even and of its odd lanes: byte i of a block has the codes of lanes 2 i and 2 i + 1.
use Rattle.std.specs.Prelude.{◌≡◌, List, ℕ, ◌+◌, ◌*◌, ◌≤◌, ◌<◌, length, get_or}

-- n entries are the top two bits of codes
abbrev pub Low : List ℕ → ℕ → Type 0
Low tops n = (i : ℕ) → i < n → get_or tops i 0 ≤ 3

-- the top bits for n bytes
pub record Pairs (even odd : List ℕ) (n : ℕ) : Type 0 where
  pub even-room : n ≤ length even
  pub odd-room : n ≤ length odd
  pub even-low : Low even n
  pub odd-low : Low odd n

-- they are those of the first lanes
pub record Split (tops even odd : List ℕ) (n : ℕ) : Type 0 where
  pub pairs : Pairs even odd n
  pub evens : (i : ℕ) → i < n → get_or even i 0 ≡ get_or tops (i * 2) 0
  pub odds : (i : ℕ) → i < n → get_or odd i 0 ≡ get_or tops (i * 2 + 1) 0
