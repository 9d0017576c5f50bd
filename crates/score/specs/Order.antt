-- The order number of a score: document 01, store.rs, with document 02, Req 04.
use Rattle.std.specs.Prelude.{◌≡◌, ℕ, ◌+◌, ◌-◌, ◌^◌, ◌<◌, false, cond, T, leb, eqb, Float}
use Rattle.std.specs.Float.{binary32}
use Rattle.std.specs.Float.Ieee.{lt, eq, fits, is_nan, to_bits}

-- 01: "its 32 bits, inverted if the top bit is set, else with the top bit flipped"
unfoldable pub order_of_bits : ℕ → ℕ
order_of_bits b = cond (leb (2 ^ 31) b) (2 ^ 32 - 1 - b) (b + 2 ^ 31)

-- 02: "The order number of -0 becomes that of +0". -0 has the top bit alone, +0 has none.
unfoldable pub ranked_bits : ℕ → ℕ
ranked_bits b = cond (eqb b (2 ^ 31)) 0 b

abbrev pub order_number : Float → ℕ
order_number score = order_of_bits (ranked_bits (to_bits binary32 score))

-- What the numbers mean, and all that other crates use of them: scores are ordered by value, as IEEE 754 compares them, and both zeros are equal.
pub record ByValue (x y : Float) : Type 0 where
  pub lower : T (lt x y) → order_number x < order_number y
  pub equal : T (eq x y) → order_number x ≡ order_number y
  pub no-others : order_number x ≡ order_number y → T (eq x y)
  pub from-1 : 0 < order_number x
  pub to-32-bits : order_number x < 2 ^ 32

abbrev pub OrderedByValue : Type 0
OrderedByValue = (x y : Float) → T (fits binary32 x) → T (fits binary32 y) → is_nan x ≡ false → ByValue x y
