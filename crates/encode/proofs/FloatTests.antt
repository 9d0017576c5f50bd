-- The larger of two floats by its tests.
use mathlib.Core.Path.{◌≡◌, refl, sym}
use mathlib.Core.Bool.{true, false}
use lib.Ieee.{Float, binary32, of_bits, is_nan, lt, round}
use Rattle.pattern.specs.Binary32.{larger}
use Rattle.encode.specs.Encode.{floor}

module _ (x y : Float) where
  pub larger-nan : true ≡ is_nan x → y ≡ larger x y
  unfolding larger
  larger-nan n = rw (sym n)

  pub larger-right : false ≡ is_nan x → lt x y ≡ true → y ≡ larger x y
  unfolding larger
  larger-right n h = rw (sym n, h)

  pub larger-left : false ≡ is_nan x → lt x y ≡ false → x ≡ larger x y
  unfolding larger
  larger-left n h = rw (sym n, h)

-- 1e-12 as the program writes it
pub floor-is : of_bits binary32 0x2B8C_BCCC ≡ floor
unfolding of_bits floor round
floor-is = refl
