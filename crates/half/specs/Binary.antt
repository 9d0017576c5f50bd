-- The binary interchange formats of IEEE 754-2019 (3.4), over whole numbers. A format is two numbers: t, how many digits the fraction's field has,
-- and w, how many bits the exponent's field has. binary16 is t = 10, w = 5, and binary32 is t = 23, w = 8. A pattern is, from the top, the sign,
-- the exponent's field and the fraction's field. A magnitude is counted in units of the format's smallest positive value: 2 ^ -24 in binary16 and
-- 2 ^ -149 in binary32.
use Rattle.std.specs.Prelude.{◌≡◌, ℕ, zero, suc, ◌+◌, ◌-◌, ◌*◌, ◌/◌, ◌%◌, ◌^◌, ◌<◌, min}
use Rattle.std.specs.Float.Ieee.{size}
use Rattle.std.specs.Float.Ieee.Nearest.{closest}

-- ---- the parts of a pattern b (3.4, figure 3.1): the sign, all that is below it, and the fraction
abbrev pub sign_of : (t w b : ℕ) → ℕ
sign_of t w b = b / 2 ^ (w + t)

abbrev pub unsigned : (t w b : ℕ) → ℕ
unsigned t w b = b % 2 ^ (w + t)

abbrev pub fraction_of : (t b : ℕ) → ℕ
fraction_of t b = b % 2 ^ t

-- ---- what b stands for: an infinity has only ones in the exponent's field, and the fraction 0 (3.4, b). A NaN has another fraction there (3.4, a),
-- so it is above the infinity. What is below is finite.
abbrev pub infinity : (t w : ℕ) → ℕ
infinity t w = (2 ^ w - 1) * 2 ^ t

abbrev pub Finite : (t w b : ℕ) → Type 0
Finite t w b = unsigned t w b < infinity t w

abbrev pub Infinite : (t w b : ℕ) → Type 0
Infinite t w b = unsigned t w b ≡ infinity t w

abbrev pub NaN : (t w b : ℕ) → Type 0
NaN t w b = infinity t w < unsigned t w b

-- The magnitude of a finite pattern with the exponent's field x and the fraction f, in units (3.4, c to e). A field of 0 has no leading digit, and
-- counts as a field of 1.
unfoldable pub magnitude : ℕ → ℕ → ℕ → ℕ
magnitude t zero f = f
magnitude t (suc x) f = (2 ^ t + f) * 2 ^ x

-- ---- rounding, worked out. `Rounded`, in `Nearest.antt`, says what the result is.
-- What is kept of n / d units where k digits are dropped: the nearest whole number of 2 ^ k units, a tie to the even one, written as a pattern
-- without its sign. The leading one of the kept digits adds one to the exponent's field. What comes out past the largest finite pattern is the
-- infinity (7.4, a).
unfoldable pub kept : (t w n d k : ℕ) → ℕ
kept t w n d k = min (k * 2 ^ t + closest n (d * 2 ^ k)) (infinity t w)

-- The pattern without its sign that n / d units are rounded to, to nearest and a tie to even (roundTiesToEven, 4.3.1). Of the whole part of n / d
-- the t + 1 leading digits are kept.
unfoldable pub near : (t w n d : ℕ) → ℕ
unfolding kept
near t w n d = kept t w n d (size (n / d) - suc t)
