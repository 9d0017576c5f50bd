-- What making and reading hand back, where they are accepted and where they are refused.
use mathlib.Core.Path.{◌≡◌, refl, sym, ap, ◌∙◌}
use Prim.Native.Nat.{ℕ, zero, suc}
use Rattle.index.specs.declared.Index.{Index}
use Rattle.index.specs.Verdict.{granted, turned_down}
use Rattle.index.specs.Arrays.{Arrays}
use Rattle.index.specs.Make.{begun, begun_unless}

module _ (x : Index) (a b : Arrays) where
  pub begun-granted : (n : ℕ) → n ≡ 0 → (y : Index) (c : Arrays) → y ≡ x → c ≡ b → begun (granted y) c ≡ begun_unless n x a b
  begun-granted n e y c f g = (λ i. begun (granted (f i)) (g i)) ∙ ap (λ (m : ℕ). begun_unless m x a b) (sym e)

  pub begun-refused : (m n : ℕ) → m ≡ n → (m ≡ 0 → ⊥) → begun (turned_down m) a ≡ begun_unless n x a b
  begun-refused m n e h = go m h ∙ ap (λ (k : ℕ). begun_unless k x a b) e
    where
      go : (k : ℕ) → (k ≡ 0 → ⊥) → begun (turned_down k) a ≡ begun_unless k x a b
      go zero l = absurd (l refl)
      go (suc k) l = refl
