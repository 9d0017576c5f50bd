-- A flag as a number, by a cast.
use mathlib.Core.Path.{◌≡◌, refl}
use mathlib.Core.Bool.{Bool, true, false}
use Prim.Native.Nat.{◌≤◌}
use native.Mathlib.Omega.{arith}
use mir.Val.{bool_byte}
use Rattle.lists.specs.Keep.{bit}

pub as-bit : (b : Bool) → bool_byte b ≡ bit b
as-bit true = refl
as-bit false = refl

pub one_at_most : (b : Bool) → bool_byte b ≤ 1
one_at_most true = omega arith
one_at_most false = omega arith
