-- The patterns that stand for the one NaN among the floats.
use mathlib.Core.Path.{◌≡◌, refl, sym, ◌∙◌}
use mathlib.Core.Bool.{true}
use Prim.Native.Nat.{ℕ, ◌%◌, ◌^◌, ◌<◌}
use borrow.Author.Tests.{lt-ltb}
use lib.Ieee.{Float, nan, inf, fin, binary32, of_bits, is_nan}
use lib.Ieee.Bits.{nan_bits_is, nan_bits_above}

is-nan : (x : Float) → is_nan x ≡ true → x ≡ nan
unfolding is_nan
is-nan nan h = refl
is-nan (inf s) h = cc
is-nan (fin s m e) h = cc

-- a pattern is a NaN's where what stands below its sign is above the infinity's
pub nan_pattern : (p : ℕ) → 0x7F80_0000 < p % 2 ^ 31 → of_bits binary32 p ≡ nan
nan_pattern p h = is-nan _ (sym (nan_bits_is binary32 p) ∙ nan_bits_above binary32 p ∙ lt-ltb _ _ h)
