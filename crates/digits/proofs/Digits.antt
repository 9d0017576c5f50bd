-- The digits of a number: how many, which, parts of them, and back to the number.
use mathlib.Core.Path.{◌≡◌, refl, sym, ap, ◌∙◌}
use mathlib.Core.List.{List, [], ◌∷◌, ◌++◌}
use Prim.Native.Nat.{ℕ, zero, suc, ◌+◌, ◌-◌, ◌*◌, ◌/◌, ◌%◌, ◌^◌, ◌<◌, min, suc-le-suc}
use native.Mathlib.Nat.{zero-add, suc-add, sub-zero, zero-sub, suc-sub-suc, zero-min, min-zero, suc-min-suc, pow-zero, pow-suc, pow-succ', mod-one, mod-lt, mod-eq_of_lt, one-le-pow}
use native.Mathlib.Omega.{arith}
use lib.Arith.{mod-mul}
use lib.ListN.{length, get_or, take, drop}
use Rattle.digits.specs.Digits.{number, digits, Below}
use Rattle.digits.proofs.Places.{div_parts, mod_parts, div-pow-zero, div-first}

module _ (B : ℕ) where
  pub length_digits : (n v : ℕ) → length (digits B n v) ≡ n
  length_digits zero v = refl
  length_digits (suc n) v = ap suc (length_digits n (v / B))

  pub get_or-digits : (n v i : ℕ) → i < n → get_or (digits B n v) i 0 ≡ v / B ^ i % B
  get_or-digits zero v i h = elim h [ ]
  get_or-digits (suc n) v zero h = rw (div-pow-zero B v)
  get_or-digits (suc n) v (suc i) (suc-le-suc h) = get_or-digits n (v / B) i h ∙ ap (λ (z : ℕ). z % B) (div-first B v i)

  pub take-digits : (m n v : ℕ) → take m (digits B n v) ≡ digits B (min m n) v
  take-digits zero n v = rw (zero-min n)
  take-digits (suc m) zero v = rw (min-zero (suc m))
  take-digits (suc m) (suc n) v = rw (suc-min-suc m n, take-digits m n (v / B))

  pub drop-digits : (m n v : ℕ) → drop m (digits B n v) ≡ digits B (n - m) (v / B ^ m)
  drop-digits zero n v = rw (sub-zero n, div-pow-zero B v)
  drop-digits (suc m) zero v = rw (zero-sub (suc m))
  drop-digits (suc m) (suc n) v = rw (suc-sub-suc n m, ← div-first B v m) (drop-digits m n (v / B))

  pub digits-add : (n m v : ℕ) → digits B (n + m) v ≡ digits B n v ++ digits B m (v / B ^ n)
  digits-add zero m v = rw (zero-add m, div-pow-zero B v)
  digits-add (suc n) m v = rw (suc-add n m, ← div-first B v n) (ap (λ (ds : List ℕ). v % B ∷ ds) (digits-add n m (v / B)))

  module _ (pos : 0 < B) where
    pub below-digits : (n v : ℕ) → Below B (digits B n v)
    below-digits zero v i = pos
    below-digits (suc n) v zero = mod-lt v pos
    below-digits (suc n) v (suc i) = below-digits n (v / B) i

    pub number_digits : (n v : ℕ) → number B (digits B n v) ≡ v % B ^ n
    number_digits zero v = rw (pow-zero B) (sym (mod-one v))
    number_digits (suc n) v = rw (number_digits n (v / B), pow-suc B n, mod-mul v (one-le-pow n B pos) pos) (omega arith)

  -- the digits of a number that is made of digits, whatever stands above them
  pub digits-parts : (ds : List ℕ) (y : ℕ) → Below B ds → digits B (length ds) (number B ds + B ^ length ds * y) ≡ ds
  digits-parts [] y h = refl
  digits-parts (d ∷ ds) y h =
      let rest = number B ds + B ^ length ds * y in
      let e : number B (d ∷ ds) + B ^ suc (length ds) * y ≡ d + B * rest = rw (pow-succ' B (length ds)) (omega arith) in
      rw (e, mod_parts B d rest (h 0), div_parts B d rest (h 0), digits-parts ds y (λ i. h (suc i)))

  pub digits_number : (ds : List ℕ) → Below B ds → digits B (length ds) (number B ds) ≡ ds
  digits_number ds h = ap (λ (z : ℕ). digits B (length ds) z) (omega arith) ∙ digits-parts ds 0 h

  -- the digits of a number in two parts
  pub digits-joined : 0 < B → (n m x y : ℕ) → x < B ^ n → digits B (n + m) (x + B ^ n * y) ≡ digits B n x ++ digits B m y
  digits-joined pos n m x y h =
      let low : digits B n (x + B ^ n * y) ≡ digits B n x = rw (length_digits n x, number_digits pos n x, mod-eq_of_lt h) at (digits-parts (digits B n x) y (below-digits pos n x)) in
      rw (digits-add n m (x + B ^ n * y), low, div_parts (B ^ n) x y h)
