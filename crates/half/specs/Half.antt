-- Halves (document 01, "format.rs, halves"): binary32 patterns written as binary16 patterns, and these read as binary32 patterns. A unit of
-- binary16, 2 ^ -24, is 2 ^ 125 units of binary32, so n units of binary32 are n / 2 ^ 125 units of binary16.
use Rattle.std.specs.Prelude.{◌≡◌, ℕ, ◌+◌, ◌*◌, ◌^◌, cond, eqb, ltb}
use Rattle.half.specs.Binary.{sign_of, unsigned, fraction_of, infinity, Finite, Infinite, NaN, magnitude, near}
use Rattle.half.specs.Nearest.{value, Rounded}

-- ---- writing: "rounds to nearest, ties to even; NaN keeps only its sign (0x7E00 or 0xFE00)". Below the sign, then whole.
unfoldable pub narrowed_unsigned : ℕ → ℕ
unfolding magnitude near
narrowed_unsigned u =
    cond (ltb u (infinity 23 8)) (near 10 5 (value 23 u) (2 ^ 125)) (cond (eqb u (infinity 23 8)) (infinity 10 5) 0x7E00)

unfoldable pub narrowed : ℕ → ℕ
unfolding narrowed_unsigned
narrowed x = sign_of 23 8 x * 2 ^ 15 + narrowed_unsigned (unsigned 23 8 x)

-- r is the half that the pattern x is written as: by the definition, and by what that means. The sign is kept. A finite value is rounded; an infinity
-- stays one; of a NaN nothing else is kept.
pub record Narrowed (x r : ℕ) : Type 0 where
  pub equals : r ≡ narrowed x
  pub sign : sign_of 10 5 r ≡ sign_of 23 8 x
  pub rounded : Finite 23 8 x → Rounded 10 5 (value 23 (unsigned 23 8 x)) (2 ^ 125) (unsigned 10 5 r)
  pub infinite : Infinite 23 8 x → Infinite 10 5 r
  pub nan : NaN 23 8 x → unsigned 10 5 r ≡ 0x7E00

-- ---- reading: "ours gives the IEEE value", and "a half NaN reads with its fraction moved up 13 places, .. not quieted". Below the sign, then whole.
-- Each finite value of binary16 is a value of binary32 too, so `near` changes none.
unfoldable pub widened_unsigned : ℕ → ℕ
unfolding magnitude near
widened_unsigned u = cond (ltb u (infinity 10 5)) (near 23 8 (value 10 u * 2 ^ 125) 1) (infinity 23 8 + fraction_of 10 u * 2 ^ 13)

unfoldable pub widened : ℕ → ℕ
unfolding widened_unsigned
widened h = sign_of 10 5 h * 2 ^ 31 + widened_unsigned (unsigned 10 5 h)

-- r is the pattern that the half h reads as: by the definition, and by what that means. The sign is kept. A finite half reads as a finite pattern of
-- the same value; an infinity stays one; a NaN stays one and keeps its fraction, moved up 13 places.
pub record Widened (h r : ℕ) : Type 0 where
  pub equals : r ≡ widened h
  pub sign : sign_of 23 8 r ≡ sign_of 10 5 h
  pub finite : Finite 10 5 h → Finite 23 8 r
  pub exact : Finite 10 5 h → value 23 (unsigned 23 8 r) ≡ value 10 (unsigned 10 5 h) * 2 ^ 125
  pub infinite : Infinite 10 5 h → Infinite 23 8 r
  pub nan : NaN 10 5 h → NaN 23 8 r
  pub fraction : NaN 10 5 h → fraction_of 23 r ≡ fraction_of 10 h * 2 ^ 13
