-- A number and its digits to a base, the lowest digit first. A little-endian field of a file is a list of digits to the base 256.
use Rattle.std.specs.Prelude.{List, [], ◌∷◌, Bool, true, ◌&&◌, ℕ, zero, suc, ◌+◌, ◌*◌, ◌/◌, ◌%◌, ◌^◌, ◌<◌, ltb, get_or}

-- The number that digits make to the base B: d₀ + d₁ B + d₂ B² and on.
abbrev pub number : ℕ → List ℕ → ℕ
number B [] = 0
number B (d ∷ ds) = d + B * number B ds

-- The n lowest digits of v to the base B.
abbrev pub digits : ℕ → ℕ → ℕ → List ℕ
digits B zero v = []
digits B (suc n) v = v % B ∷ digits B n (v / B)

-- Bit j of a number, its digit j to the base 2.
abbrev pub bit_of : (number j : ℕ) → ℕ
bit_of v j = v / 2 ^ j % 2

-- Every element is a digit to the base B. (Past the end `get_or` gives 0, which is one too.)
abbrev pub Below : ℕ → List ℕ → Type 0
Below B ds = (i : ℕ) → get_or ds i 0 < B

-- The same as a test.
abbrev pub digits_below : ℕ → List ℕ → Bool
digits_below B [] = true
digits_below B (d ∷ ds) = ltb d B && digits_below B ds
