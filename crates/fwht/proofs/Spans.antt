-- Pass after pass: the transform as a whole, over any type of entries.
use mathlib.Core.Bool.{Bool, true, false, cond}
use mathlib.Core.List.{List}
use mathlib.Core.Path.{◌≡◌, refl, sym, ap, ap₂, ◌∙◌}
use Prim.Native.Nat.{ℕ, zero, suc, ◌+◌, ◌-◌, ◌*◌, ◌^◌, ◌≤◌, ◌<◌}
use native.Mathlib.Nat.{le_antisymm, le_of_suc-le-suc}
use native.Mathlib.Omega.{arith}
use borrow.Author.Tests.{eq-eqb, ne_eqb}
use lib.ListN.{length}
use lib.Pow.{pow_pos, pow-add, pow_mono}
use Rattle.padding.specs.Padded.{exponent, is_power_of_two}
use Rattle.fwht.specs.Fwht.{passes, fwht}
use Rattle.fwht.specs.InPlace.{Blocks, Spanned, spans}
use Rattle.padding.proofs.Powers.{exponent-pow, pow-reflects-lt}
use Rattle.fwht.proofs.Passes.{pass-length}

-- a power of two is whole blocks of each lower one
power-blocks : (j k : ℕ) → j ≤ k → Blocks (2 ^ j) (2 ^ k)
power-blocks j k l = record { positive = pow_pos j; count = (2 ^ (k - j), ap (λ (z : ℕ). 2 ^ z) {y = k - j + j} (omega arith) ∙ pow-add 2 (k - j) j) }

module _ {A : Type 0} (d : A) (plus minus : A → A → A) where
  pub passes-length : (k : ℕ) (v : List A) → length (passes d plus minus k v) ≡ length v
  passes-length zero v = refl
  passes-length (suc k) v = pass-length d plus minus (2 ^ k) (passes d plus minus k v) ∙ passes-length k v

  -- the transform of a list of 2 ^ k entries
  pub fwht-power : (k : ℕ) (v : List A) → length v ≡ 2 ^ k → fwht d plus minus v ≡ passes d plus minus k v
  unfolding fwht is_power_of_two
  fwht-power k v e =
      let f : exponent (length v) ≡ k = ap exponent e ∙ exponent-pow k in
      rw (eq-eqb (2 ^ exponent (length v)) (length v) (ap (λ (z : ℕ). 2 ^ z) f ∙ sym e)) (ap (λ (z : ℕ). passes d plus minus z v) f)

  -- and of any other list
  pub fwht-other : (v : List A) → ((k : ℕ) → length v ≡ 2 ^ k → ⊥) → fwht d plus minus v ≡ v
  unfolding fwht is_power_of_two
  fwht-other v n = rw (ne_eqb (2 ^ exponent (length v)) (length v) (λ e. n (exponent (length v)) (sym e)))

  pub fwht-length : (v : List A) → length (fwht d plus minus v) ≡ length v
  unfolding fwht
  fwht-length v = go (is_power_of_two (length v))
    where
      go : (b : Bool) → length (cond b (passes d plus minus (exponent (length v)) v) v) ≡ length v
      go true = passes-length (exponent (length v)) v
      go false = refl

  -- the first c passes, and k more
  passes-spans : (k c : ℕ) (v : List A) → spans d plus minus (2 ^ c) k (passes d plus minus c v) ≡ passes d plus minus (k + c) v
  passes-spans zero c v = ap (λ (z : ℕ). passes d plus minus z v) {x = c} {y = 0 + c} (omega arith)
  passes-spans (suc k) c v =
      ap (λ (z : ℕ). spans d plus minus z k (passes d plus minus (suc c) v)) {x = 2 ^ c + 2 ^ c} {y = 2 ^ suc c} (omega arith)
      ∙ passes-spans k (suc c) v ∙ ap (λ (z : ℕ). passes d plus minus z v) {x = k + suc c} {y = suc k + c} (omega arith)

  pub spanned-start : (v : List A) → 2 ^ exponent (length v) ≡ length v → Spanned d plus minus v v 1
  spanned-start v e = record { power = e; count = 0; span = refl; within = omega arith; work = refl }

  module _ (v w : List A) (h : ℕ) (s : Spanned d plus minus v w h) where
    pub spanned-length : length w ≡ length v
    spanned-length = ap length s.work ∙ passes-length s.count v

    pub spanned-positive : 0 < h
    spanned-positive = rw s.span (pow_pos s.count)

    -- where the span after k more is below the length, there are suc k more
    module _ (k : ℕ) (l : 2 ^ k * h < length v) where
      further : suc k + s.count ≤ exponent (length v)
      further = omega (arith, pow-reflects-lt (k + s.count) (exponent (length v)) (rw (pow-add 2 k s.count, ← s.span, s.power) l))

      power : 2 ^ suc k * h ≡ 2 ^ (suc k + s.count)
      power = ap (λ (z : ℕ). 2 ^ suc k * z) s.span ∙ sym (pow-add 2 (suc k) s.count)

      pub spanned-blocks : Blocks (2 ^ suc k * h) (length w)
      spanned-blocks = rw (power, spanned-length, ← s.power) (power-blocks (suc k + s.count) (exponent (length v)) further)

      pub spanned-some : 2 ^ suc k * h ≤ length w
      spanned-some = rw (power, spanned-length, ← s.power) (pow_mono further)

      pub spanned-more : (x : List A) → x ≡ spans d plus minus h (suc k) w → Spanned d plus minus v x (2 ^ suc k * h)
      spanned-more x p =
          record {
            power = s.power;
            count = suc k + s.count;
            span = power;
            within = further;
            work = p ∙ ap₂ (λ (z : ℕ) (l : List A). spans d plus minus z (suc k) l) s.span s.work ∙ passes-spans (suc k) s.count v;
          }

    all : length v < 2 * h → s.count ≡ exponent (length v)
    all l = le_antisymm s.within (le_of_suc-le-suc (pow-reflects-lt (exponent (length v)) (suc s.count) (omega (arith, s.span, s.power))))

    pub spanned-end : length v < 2 * h → w ≡ fwht d plus minus v
    spanned-end l = s.work ∙ sym (fwht-power s.count v (rw (all l) (sym s.power)))
