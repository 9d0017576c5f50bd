-- What `widened` is, by cases on the half's fields, as the code works it out; and that it is what `Widened` says.
use mathlib.Core.Path.{◌≡◌, refl, sym, ap, ap₂, ◌∙◌}
use mathlib.Core.Logic.{inr}
use Prim.Native.Nat.{ℕ, zero, suc, ◌+◌, ◌-◌, ◌*◌, ◌/◌, ◌%◌, ◌^◌, ◌≤◌, ◌<◌}
use native.Mathlib.Nat.{lt_of_not-le, zero-lt-suc}
use native.Mathlib.Decide.{dec_le}
use native.Mathlib.Omega.{arith}
use lib.Arith.{digits_mod}
use lib.Dec.{lit<}
use lib.Pow.{mod-pow-add, mod-mod-pow}
use lib.Count.{count_leading_zeros}
use borrow.Author.Tests.{lt-ltb, le-ltb}
use Rattle.half.specs.Binary.{infinity, magnitude, unsigned}
use Rattle.half.specs.Nearest.{value}
use Rattle.half.specs.Half.{widened, widened_unsigned, Widened}
use Rattle.half.proofs.Digits.{weight, value-unsigned, sign-of-sum, unsigned-of-sum, Shift, zeros-plus-one}
use Rattle.half.proofs.NearestLaw.{value-at}
use Rattle.half.proofs.Rounding.{near-held}

-- ---- c is the finite binary32 pattern that a finite half with the exponent's field x and the fraction f reads as
pub record Reads (x f c : ℕ) : Type 0 where
  pub finite : c < infinity 23 8
  pub same : value 23 c ≡ magnitude 10 x f * 2 ^ 125

pub normal : (x f : ℕ) → 0 < x → x < 31 → f < 1024 → Reads x f ((x + 112) * 0x80_0000 + f * 0x2000)
unfolding magnitude
normal zero f p X F = absurd (omega arith)
normal (suc y) f p X F =
    let e : (suc y + 112) * 0x80_0000 + f * 0x2000 ≡ (y + 112) * 0x80_0000 + (1024 + f) * 2 ^ 13 = omega arith in
    record {
      finite = omega arith;
      same =
          ap (value 23) e
          ∙ value-at 23 (y + 112) ((1024 + f) * 2 ^ 13) (omega arith) (inr (omega arith))
          ∙ weight (1024 + f) 13 (y + 112)
          ∙ ap (λ (z : ℕ). (1024 + f) * 2 ^ z) {x = 13 + (y + 112)} {y = y + 125} (omega arith)
          ∙ sym (weight (1024 + f) y 125);
    }

pub nothing : Reads 0 0 0
unfolding magnitude
nothing = record { finite = lit< tt; same = refl }

subnormal-at : (f s : ℕ) → Shift 10 f s → Reads 0 f ((113 - s) * 0x80_0000 + f * 2 ^ s % 0x1_0000_0000 % 1024 * 0x2000)
unfolding magnitude
subnormal-at f s g =
    let e : (113 - s) * 0x80_0000 + f * 2 ^ s % 0x1_0000_0000 % 1024 * 0x2000 ≡ (112 - s) * 0x80_0000 + f * 2 ^ s * 2 ^ 13 = omega arith in
    record {
      finite = omega arith;
      same =
          ap (value 23) e
          ∙ value-at 23 (112 - s) (f * 2 ^ s * 2 ^ 13) (omega arith) (inr (omega arith))
          ∙ weight (f * 2 ^ s) 13 (112 - s)
          ∙ weight f s (13 + (112 - s))
          ∙ ap (λ (z : ℕ). f * 2 ^ z) {x = s + (13 + (112 - s))} {y = 125} (omega arith);
    }

pub subnormal : (f : ℕ) → 0 < f → f < 1024
    → let s = count_leading_zeros 32 f - 22 + 1 in Reads 0 f ((113 - s) * 0x80_0000 + f * 2 ^ s % 0x1_0000_0000 % 1024 * 0x2000)
subnormal f p h = subnormal-at f (count_leading_zeros 32 f - 22 + 1) (zeros-plus-one 10 f (lit< tt) p h).1

-- there is one for every finite half
reads : (x f : ℕ) → x < 31 → f < 1024 → (c : ℕ) × Reads x f c
reads zero zero X F = (0, nothing)
reads zero (suc f) X F = (_, subnormal (suc f) (zero-lt-suc f) F)
reads (suc y) f X F = (_, normal (suc y) f (zero-lt-suc y) X F)

-- ---- `widened` of a half h whose fields below the sign are x and f
module _ (h x f : ℕ) (X : h / 1024 % 32 ≡ x) (F : h % 1024 ≡ f) where
  abbrev signed : ℕ → ℕ
  signed v = h / 32768 * 0x8000_0000 + v

  value-is : value 10 (h % 32768) ≡ magnitude 10 x f
  value-is = value-unsigned 10 5 h ∙ ap₂ (λ (a b : ℕ). magnitude 10 a b) X F

  finite-unsigned : (c : ℕ) → x < 31 → Reads x f c → widened_unsigned (h % 32768) ≡ c
  unfolding widened_unsigned
  finite-unsigned c l r =
      rw (lt-ltb (h % 32768) 31744 (omega arith))
      (near-held 23 8 c (value 10 (h % 32768) * 2 ^ 125) (lit< tt) (lit< tt) r.finite
      (r.same ∙ ap (λ (z : ℕ). z * 2 ^ 125) (sym value-is)))

  special-unsigned : x ≡ 31 → widened_unsigned (h % 32768) ≡ 255 * 0x80_0000 + f * 0x2000
  unfolding widened_unsigned
  special-unsigned e = rw (le-ltb (h % 32768) 31744 (omega arith)) (omega arith)

  pub finite : (c : ℕ) → x < 31 → Reads x f c → widened h ≡ signed c
  unfolding widened
  finite c l r = ap signed (finite-unsigned c l r)

  pub special : x ≡ 31 → widened h ≡ signed (255 * 0x80_0000 + f * 0x2000)
  unfolding widened
  special e = ap signed (special-unsigned e)

-- ---- the result r has every field of `Widened`
module _ (h r : ℕ) (e : r ≡ widened h) where
  abbrev u : ℕ
  u = h % 32768

  abbrev x : ℕ
  x = h / 1024 % 32

  abbrev f : ℕ
  f = h % 1024

  -- the pattern that a finite half reads as
  read : u < 31744 → (c : ℕ) × Reads x f c × (widened_unsigned u ≡ c)
  read l =
      let g : x < 31 = omega arith in
      let c = reads x f g (omega arith) in
      (c.0, c.1, finite-unsigned h x f refl refl c.0 g c.1)

  high : 31744 ≤ u → widened_unsigned u ≡ 255 * 0x80_0000 + f * 0x2000
  high l = special-unsigned h x f refl refl (omega arith)

  below : widened_unsigned u < 2 ^ 31
  below = go (dec_le 31744 u)
    where
      go : Dec (31744 ≤ u) → widened_unsigned u < 2 ^ 31
      go (yes l) = omega (arith, high l)
      go (no n) = let c = read (lt_of_not-le n) in omega (arith, c.1.finite, c.2)

  sum : r ≡ h / 32768 * 2 ^ 31 + widened_unsigned u
  unfolding widened
  sum = e

  rest : unsigned 23 8 r ≡ widened_unsigned u
  rest = unsigned-of-sum 23 8 (h / 32768) (widened_unsigned u) r sum below

  pub meets : Widened h r
  meets =
      record {
        equals = e;
        sign = sign-of-sum 23 8 (h / 32768) (widened_unsigned u) r sum below;
        finite = λ l. let c = read l in omega (arith, rest, c.1.finite, c.2);
        exact =
            λ l.
            let c = read l in
            ap (value 23) (rest ∙ c.2) ∙ c.1.same ∙ ap (λ (z : ℕ). z * 2 ^ 125) (sym (value-is h x f refl refl));
        infinite = λ z. rest ∙ high (omega arith) ∙ omega arith;
        nan = λ l. omega (arith, rest, high (omega arith), mod-pow-add h 5 10);
        fraction =
            λ l.
            sym (mod-mod-pow r 8 23) ∙ ap (λ (z : ℕ). z % 2 ^ 23) (rest ∙ high (omega arith)) ∙ digits_mod 255 {m = 2 ^ 23} (omega arith);
      }
