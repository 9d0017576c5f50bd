-- Tests joined by `&&`.
use mathlib.Core.Path.{◌≡◌, refl, sym, subst}
use mathlib.Core.Bool.{Bool, true, false, ◌&&◌}
use lib.Dec.{T}

pub both : (b c : Bool) → (b && c) ≡ true → (b ≡ true) × (c ≡ true)
both true c e = (refl, e)
both false c e = absurd (subst T (sym e) tt)

pub and_left : (b c : Bool) → (b && c) ≡ true → b ≡ true
and_left b c e = (both b c e).0

pub and_right : (b c : Bool) → (b && c) ≡ true → c ≡ true
and_right b c e = (both b c e).1
