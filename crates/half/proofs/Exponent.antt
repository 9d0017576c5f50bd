-- The half writer's signed exponent: an exponent's field X less 127, and what becomes of it.
use mathlib.Core.Path.{◌≡◌}
use mathlib.Core.Bool.{true, false}
use Prim.Native.Nat.{ℕ, ◌-◌, ◌≤◌, ◌<◌}
use native.Mathlib.Omega.{arith}
use lib.IntN.{ℤ, pos, negsuc, nat_abs, ◌+ℤ◌, ◌-ℤ◌}
use lib.Signed.{lt_z, le_z}
use mir.Syntax.{w32}
use mir.Val.{to_z, of_z}
use Rattle.std.proofs.lemmas.Int.{ints}

-- ---- the exponent, and the code's three steps from it
abbrev pub less : ℕ → ℤ
less X = to_z w32 (of_z w32 (to_z w32 X -ℤ pos 127))

abbrev pub plus14 : ℕ → ℤ
plus14 X = to_z w32 (of_z w32 (less X +ℤ pos 14))

abbrev pub minus : ℕ → ℤ
minus X = to_z w32 (of_z w32 (pos 0 -ℤ less X))

abbrev pub minus1 : ℕ → ℤ
minus1 X = to_z w32 (of_z w32 (minus X -ℤ pos 1))

module _ (X : ℕ) (h : X < 256) where
  pub over : lt_z (pos 15) (less X) ≡ true → 142 < X
  over e = grind (arith, ints)

  pub not-over : lt_z (pos 15) (less X) ≡ false → X ≤ 142
  not-over e = grind (arith, ints)

  pub normal : le_z (negsuc 13) (less X) ≡ true → 113 ≤ X
  normal e = grind (arith, ints)

  pub subnormal : le_z (negsuc 13) (less X) ≡ false → X < 113
  subnormal e = grind (arith, ints)

  pub plus14-is : 113 ≤ X → nat_abs (plus14 X) ≡ X - 113
  plus14-is l = grind (arith, ints)

  pub minus1-is : X < 113 → nat_abs (minus1 X) ≡ 126 - X
  minus1-is l = grind (arith, ints)
