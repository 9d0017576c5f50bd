-- Decimal constants as the Rust writes them, and the binary32 that each stands for.
use Rattle.std.specs.Prelude.{◌≡◌, refl, ℕ, ◌+◌, ◌-◌, ◌*◌, ◌^◌, Bool, true, false, ◌&&◌, cond, leb, eqb, negsuc, Float}
use Prim.Native.Char.{code}
use Prim.Native.String.{String, [], ◌∷◌, count}
use Rattle.std.specs.Float.{fin, binary32}
use Rattle.std.specs.Float.Ieee.{round}

-- whether a text begins with a minus sign
unfoldable pub negative : String → Bool
negative [] = false
negative (c ∷ t) = eqb (code c) (code "-")

-- the whole number that the digits of a text make, after digits that make n; what is no digit is passed over
unfoldable pub decimal_digits : ℕ → String → ℕ
decimal_digits n [] = n
decimal_digits n (c ∷ t) = decimal_digits (cond (leb (code "0") (code c) && leb (code c) (code "9")) (n * 10 + (code c - code "0")) n) t

-- how many characters stand after the point
unfoldable pub places : String → ℕ
places [] = 0
places (c ∷ t) = cond (eqb (code c) (code ".")) (count t) (places t)

-- the binary32 nearest to a decimal: its digits, over ten to the power of its places
unfoldable pub decimal : String → Float
unfolding negative decimal_digits places round
decimal t = round binary32 (negative t) (decimal_digits 0 t) (10 ^ places t)

-- -0.1 is no binary32: the nearest is -13421773 / 2 ^ 27
tenth : decimal "-0.1" ≡ fin true 13421773 (negsuc 26)
unfolding decimal
tenth = refl
