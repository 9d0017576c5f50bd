-- On a record and arrays that fit, what the arrays say of slots that must stay is what the index asks of its value.
use mathlib.Core.Path.{◌≡◌, refl, sym, ap, ◌∙◌}
use mathlib.Core.Bool.{Bool, true, false, ◌&&◌}
use Prim.Native.Nat.{ℕ, ◌<◌}
use lib.ListN.{get_or}
use lib.Dec.{eqb}
use borrow.Author.Tests.{eqb-true, eqb-false}
use Rattle.std.specs.List.{list_any}
use Rattle.lists.specs.Lists.{tab, below}
use Rattle.lists.specs.Keep.{any}
use Rattle.lists.proofs.Laws.{tab-ext}
use Rattle.lists.proofs.Members.{any_none, any_false}
use Rattle.lists.proofs.Front.{map-tab, each-tab, tab-each}
use Rattle.lists.proofs.Ranges.{range-below, list-any}
use Rattle.index.specs.declared.Index.{Index}
use Rattle.index.specs.Arrays.{Arrays}
use Rattle.index.specs.State.{Slot, header_of, slot_at, state_of}
use Rattle.index.specs.Fit.{fit}
use Rattle.index.specs.Step.{holds, holds_at, must_stay, any_must_stay}
use Rattle.index.proofs.Questions.{any-map}
use Rattle.slot_keys.specs.Has.{slot_has}
use Rattle.held.specs.Held.{slot_holds}
use Rattle.held.proofs.Value.{mark-holds, mark-holds_at, only-slot}
use Rattle.retention.specs.Stays.{key_must_stay}

-- ---- tests of a list

module _ {X : Type 0} (p : X → Bool) where
  -- of a table only one entry of which may pass
  any-only : (f : ℕ → X) (n i : ℕ) → i < n → ((m : ℕ) → m < n → (m ≡ i → ⊥) → p (f m) ≡ false) → any p (tab f n) ≡ p (f i)
  any-only f n i l others = go (any p (tab f n)) refl (p (f i)) refl
    where
      at : (m : ℕ) → p (f i) ≡ false → m < n → (b : Bool) → eqb m i ≡ b → p (f m) ≡ false
      at m e k true d = ap (λ (j : ℕ). p (f j)) (eqb-true m i d) ∙ e
      at m e k false d = others m k (eqb-false m i d)

      go : (b : Bool) → any p (tab f n) ≡ b → (c : Bool) → p (f i) ≡ c → b ≡ c
      go false e c g = sym (tab-each (λ x. p x ≡ false) f n (any_none p (tab f n) e) i l) ∙ g
      go true e true g = refl
      go true e false g = sym e ∙ any_false p (tab f n) (each-tab (λ x. p x ≡ false) f n (λ m k. at m g k (eqb m i) refl))

-- ---- the value of a record and arrays that fit

module _ (x : Index) (a : Arrays) (e : fit x a ≡ true) (j present : ℕ) where
  abbrev old : ℕ → Slot
  old = slot_at (header_of x) a

  pub key-stays : any_must_stay (holds j) present (state_of x a).slots ≡ key_must_stay a.keys a.keyed a.years x.n j present
  unfolding any_must_stay state_of slot_at
  key-stays =
      let p : Slot → Bool = λ s. holds j s.mark && must_stay present s.year in
      let q : ℕ → Bool = λ i. slot_has a.keys a.keyed j i && must_stay present (get_or a.years i 0) in
      sym (any-map (λ b. b) p (tab old x.n)) ∙ ap (any (λ b. b)) (map-tab p old x.n ∙ tab-ext (λ i. p (old i)) q x.n same ∙ sym (map-tab q (λ i. i) x.n))
      ∙ any-map (λ b. b) q (below x.n) ∙ sym (ap (list_any q) (range-below x.n) ∙ list-any q (below x.n))
    where
      same : (i : ℕ) → i < x.n → (holds j (old i).mark && must_stay present (old i).year) ≡ (slot_has a.keys a.keyed j i && must_stay present (get_or a.years i 0))
      same i l = ap (λ (b : Bool). b && must_stay present (get_or a.years i 0)) (mark-holds x a e i l j)

  -- a slot that holds a position of the key is the only one that does
  pub only-stays : (p i : ℕ) → i < x.n → slot_holds a.keys a.keyed a.held j p i ≡ true →
      any_must_stay (holds_at j p) present (state_of x a).slots ≡ must_stay present (get_or a.years i 0)
  unfolding any_must_stay state_of slot_at
  only-stays p i l h =
      any-only (λ s. holds_at j p s.mark && must_stay present s.year) old x.n i l others
      ∙ ap (λ (b : Bool). b && must_stay present (get_or a.years i 0)) (mark-holds_at x a e i l j p ∙ h)
    where
      apart : (m : ℕ) → m < x.n → (m ≡ i → ⊥) → (b : Bool) → slot_holds a.keys a.keyed a.held j p m ≡ b → b ≡ false
      apart m k d true f = absurd (d (sym (only-slot x a e j p m k f) ∙ only-slot x a e j p i l h))
      apart m k d false f = refl

      others : (m : ℕ) → m < x.n → (m ≡ i → ⊥) → (holds_at j p (old m).mark && must_stay present (old m).year) ≡ false
      others m k d = ap (λ (b : Bool). b && must_stay present (old m).year) (mark-holds_at x a e m k j p ∙ apart m k d (slot_holds a.keys a.keyed a.held j p m) refl)
