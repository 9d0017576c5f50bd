-- The number of a list of digits: joined lists, parts, one digit, two digits.
use mathlib.Core.Path.{◌≡◌, sym, ap, ◌∙◌}
use mathlib.Core.List.{List, [], ◌∷◌, ◌++◌}
use Prim.Native.Nat.{ℕ, zero, suc, ◌+◌, ◌*◌, ◌/◌, ◌%◌, ◌^◌, ◌<◌}
use native.Mathlib.Nat.{zero-add, add-zero, one-mul, pow-zero, pow-suc, pow-succ', zero-div, zero-mod, mod-one, one-le-pow}
use native.Mathlib.Numerals.{add-one}
use native.Mathlib.Omega.{arith}
use lib.Arith.{digits_lt, mod-mul}
use lib.ListN.{length, get_or, take, drop}
use lib.Seq.{drop-cons, get_or-drop}
use Rattle.digits.specs.Digits.{number, Below}
use Rattle.digits.proofs.Places.{div_parts, mod_parts, mod-mul-parts, div-pow-zero, div-first, div-last}
use Rattle.digits.proofs.Below.{base-pos, below-drop}

pub number_append : (B : ℕ) (xs ys : List ℕ) → number B (xs ++ ys) ≡ number B xs + B ^ length xs * number B ys
number_append B [] ys = sym (simp (pow-zero, one-mul, zero-add))
number_append B (x ∷ xs) ys = rw (number_append B xs ys, pow-succ' B (length xs)) (omega arith)

module _ (B : ℕ) where
  pub number_lt : (ds : List ℕ) → Below B ds → number B ds < B ^ length ds
  number_lt [] h = omega (arith, pow-zero B)
  number_lt (d ∷ ds) h = omega (arith, pow-suc B (length ds), digits_lt (number_lt ds (λ i. h (suc i))) (h 0))

  -- one digit more, from above
  pub number-from : (i : ℕ) (ds : List ℕ) → i < length ds → number B (drop i ds) ≡ get_or ds i 0 + B * number B (drop (suc i) ds)
  number-from i ds h = ap (number B) (drop-cons ds i 0 h)

  -- the digits from i on, and those before i
  pub number-drop : (i : ℕ) (ds : List ℕ) → Below B ds → number B (drop i ds) ≡ number B ds / B ^ i
  number-drop zero ds h = sym (div-pow-zero B (number B ds))
  number-drop (suc i) [] h = sym (zero-div (B ^ suc i))
  number-drop (suc i) (d ∷ ds) h =
      number-drop i ds (λ k. h (suc k)) ∙ ap (λ (z : ℕ). z / B ^ i) (sym (div_parts B d (number B ds) (h 0))) ∙ div-first B (d + B * number B ds) i

  pub number-take : (i : ℕ) (ds : List ℕ) → Below B ds → number B (take i ds) ≡ number B ds % B ^ i
  number-take zero ds h = sym (rw (pow-zero B) (mod-one (number B ds)))
  number-take (suc i) [] h = sym (zero-mod (B ^ suc i))
  number-take (suc i) (d ∷ ds) h =
      rw (number-take i ds (λ k. h (suc k)), pow-succ' B i) (sym (mod-mul-parts B (B ^ i) d (number B ds) (one-le-pow i B (base-pos B (d ∷ ds) h)) (h 0)))

  lowest : (ds : List ℕ) → Below B ds → number B ds % B ≡ get_or ds 0 0
  lowest [] h = zero-mod B
  lowest (d ∷ ds) h = mod_parts B d (number B ds) (h 0)

  -- digit i
  pub digit-number : (i : ℕ) (ds : List ℕ) → Below B ds → number B ds / B ^ i % B ≡ get_or ds i 0
  digit-number i ds h = rw (← number-drop i ds h, lowest (drop i ds) (below-drop B i ds h), get_or-drop i ds 0 0, add-zero i)

  -- digit i and the next one
  pub window-number : (i : ℕ) (ds : List ℕ) → Below B ds → number B ds / B ^ i % (B * B) ≡ get_or ds i 0 + B * get_or ds (i + 1) 0
  window-number i ds h =
      let pos = base-pos B ds h in
      rw (mod-mul (number B ds / B ^ i) pos pos, div-last B (number B ds) i, digit-number i ds h, digit-number (suc i) ds h, add-one i) (omega arith)
