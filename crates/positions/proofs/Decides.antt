-- Laws of yes and no.
use mathlib.Core.Path.{◌≡◌, refl, sym, ◌∙◌}
use mathlib.Core.Bool.{Bool, true, false, true≢false, false≢true}
use Rattle.positions.specs.Decides.{Shows, Decides}

module _ {P Q : Type 0} where
  pub holds : P → Shows true P Q
  holds p = record { yes = λ e. p; no = λ e. absurd (true≢false e) }

  pub fails : (Q → ⊥) → Shows false P Q
  fails n = record { yes = λ e. absurd (false≢true e); no = λ e. n }

module _ {P : Type 0} where
  -- a test that passes just where P holds
  pub decided : (b : Bool) → (b ≡ true → P) → (P → b ≡ true) → Decides b P
  decided b f g = record { yes = f; no = λ e p. true≢false (sym (g p) ∙ e) }

  -- where P holds the answer is yes
  pub decides-true : {b : Bool} → Decides b P → P → b ≡ true
  decides-true {b} d p = go b refl
    where
      go : (x : Bool) → b ≡ x → x ≡ true
      go true e = refl
      go false e = absurd (d.no e p)

  -- and where it does not, no
  pub decides-false : {b : Bool} → Decides b P → (P → ⊥) → b ≡ false
  decides-false {b} d n = go b refl
    where
      go : (x : Bool) → b ≡ x → x ≡ false
      go true e = absurd (n (d.yes e))
      go false e = refl

  -- two exact answers are equal
  pub same : (b c : Bool) → Decides b P → Decides c P → b ≡ c
  same true true d e = refl
  same true false d e = absurd (e.no refl (d.yes refl))
  same false true d e = absurd (d.no refl (e.yes refl))
  same false false d e = refl

-- beside what holds anyway
pub decides-beside : {P Q : Type 0} {b : Bool} → P → Decides b Q → Decides b (P × Q)
decides-beside p d = record { yes = λ e. (p, d.yes e); no = λ e f. d.no e f.1 }
