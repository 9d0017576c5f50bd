-- Floats by their tests: the refusal that a sum calls for.
use mathlib.Core.Path.{◌≡◌, refl, sym, ◌∙◌, subst}
use mathlib.Core.Bool.{Bool, true, false, beq, ◌||◌}
use Prim.Native.Nat.{zero, suc, ◌*◌}
use native.Mathlib.Nat.{zero-mul, mul-pos, zero-lt-suc}
use native.Mathlib.Omega.{arith}
use borrow.Author.Tests.{eqb-true}
use lib.Dec.{T, eqb}
use lib.IntN.{ℤ}
use lib.Ieee.{Float, nan, inf, fin, binary32, up, down, of_bits, is_nan, eq}
use lib.Ieee.Fits.{up_pos}
use Rattle.std.specs.Float.{float_is_infinite}
use Rattle.lists.proofs.Tests.{both}
use Rattle.vectors.specs.Vectors.{sum_fault}

-- ---- refusals 2 and 3

never : {A : Type 0} → false ≡ true → A
never e = absurd (subst T (sym e) tt)

pub fault-nan : (x : Float) → true ≡ is_nan x → 2 ≡ sum_fault x
unfolding is_nan
fault-nan nan h = refl
fault-nan (inf s) h = never (sym h)
fault-nan (fin s m e) h = never (sym h)

pub fault-zero : (x : Float) → eq x (of_bits binary32 0) ≡ true → 2 ≡ sum_fault x
unfolding eq of_bits
fault-zero nan h = refl
fault-zero (inf s) h = never h
fault-zero (fin s zero e) h = refl
fault-zero (fin s (suc m) e) h =
    let level = (both (eqb (suc m * up e * 1) (0 * 1 * down e)) (beq s false || eqb (suc m * up e * 1) 0) h).0 in
    let above = mul-pos (zero-lt-suc m) (up_pos e) in
    absurd (omega (arith, eqb-true (suc m * up e * 1) (0 * 1 * down e) level, zero-mul (down e)))

pub fault-infinite : (x : Float) → true ≡ float_is_infinite x → 3 ≡ sum_fault x
unfolding float_is_infinite
fault-infinite nan h = never (sym h)
fault-infinite (inf s) h = refl
fault-infinite (fin s m e) h = never (sym h)

zero-equals : (s : Bool) (e : ℤ) → eq (fin s 0 e) (of_bits binary32 0) ≡ true
unfolding eq of_bits
zero-equals true e = rw (zero-mul (up e), zero-mul (down e))
zero-equals false e = rw (zero-mul (up e), zero-mul (down e))

pub no-fault : (x : Float) → false ≡ is_nan x → eq x (of_bits binary32 0) ≡ false → false ≡ float_is_infinite x → 0 ≡ sum_fault x
unfolding is_nan float_is_infinite
no-fault nan n z i = never n
no-fault (inf s) n z i = never i
no-fault (fin s (suc m) e) n z i = refl
no-fault (fin s zero e) n z i = never (sym z ∙ zero-equals s e)
