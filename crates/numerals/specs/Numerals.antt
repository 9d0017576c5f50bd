-- How numbers are printed.
use Rattle.std.specs.Prelude.{◌≡◌, refl, cond, ◌&&◌, List, [], ◌∷◌, ◌++◌, ℕ, zero, suc, ◌-◌, ◌/◌, ◌%◌, ltb}
use Rattle.io.specs.Digits.{hex_digit_ascii}

-- The numeral of n in base b: that of the quotient, then the last digit. It has `least` digits at least, zeros in front, and the last `most` at most.
unfoldable pub numeral : (b least most n : ℕ) → List ℕ
numeral b least zero n = []
numeral b least (suc m) n = cond (ltb least 2 && ltb n b) (hex_digit_ascii n ∷ []) (numeral b (least - 1) m (n / b) ++ (hex_digit_ascii (n % b) ∷ []))

-- of a number of 64 bits
abbrev pub decimal_text : ℕ → List ℕ
decimal_text n = numeral 10 1 20 n

abbrev pub hexadecimal_text : (least n : ℕ) → List ℕ
hexadecimal_text least n = numeral 16 least 16 n

-- worked by hand: 0 is `0`, 107 is `107`, 27 in four digits is `001b`
none : decimal_text 0 ≡ 48 ∷ []
unfolding numeral
none = refl

within : decimal_text 107 ≡ 49 ∷ 48 ∷ 55 ∷ []
unfolding numeral
within = refl

in_four : hexadecimal_text 4 27 ≡ 48 ∷ 48 ∷ 49 ∷ 98 ∷ []
unfolding numeral
in_four = refl
