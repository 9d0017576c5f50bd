-- Where each keyed slot follows the one before it, the positions are in order.
use mathlib.Core.Path.{◌≡◌, refl, sym, ◌∙◌, subst}
use mathlib.Core.Bool.{Bool, true, false, cond, true≢false}
use mathlib.Core.Logic.{◌⊎◌, inl, inr, ⊎_elim}
use Prim.Native.Nat.{ℕ, suc, ◌≤◌, ◌<◌}
use native.Mathlib.Nat.{suc_inj, eq-or-lt_of_le, le_of_suc-le-suc}
use native.Mathlib.Omega.{arith}
use lib.ListN.{get_or}
use Rattle.std.specs.Prelude.{Option, Some}
use Rattle.positions.specs.Ordered.{Keys, Holds, New, Preceded, Ordered}
use Rattle.positions.proofs.Order.{loose-new}
use Rattle.positions.specs.Positions.{Follows, first, greater, again, Rising}

-- ---- one slot

module _ (a : Keys) (last : Option ℕ) (j : ℕ) where
  pub rising-keyed : get_or a.keyed j false ≡ true → Follows a.keys a.held last j → Rising a last j
  rising-keyed on f = record { follows = λ e. f; loose = λ off. absurd (true≢false (sym on ∙ off)) }

-- ---- the slots so far

module _ (a : Keys) where
  -- slot s has a greater key than k, or the same and a position not below p
  abbrev Highest : (k p s : ℕ) → Type 0
  Highest k p s = (k < get_or a.keys s 0) ⊎ ((k ≡ get_or a.keys s 0) × (p ≤ get_or a.held s 0))

  -- what holds of the first i slots, the last keyed one being `last`
  pub record Rises (i : ℕ) (last : Option ℕ) : Type 0 where
    pub early : (s : ℕ) → last ≡ Some s → s < i
    pub keyed : (s : ℕ) → last ≡ Some s → get_or a.keyed s false ≡ true
    pub highest : (j k p : ℕ) → j < i → Holds a k p j → (s : ℕ) × (last ≡ Some s) × Highest k p s
    pub ordered : Ordered a i

  -- a slot that follows is above all before it
  above : (k p s j : ℕ) → Highest k p s → Follows a.keys a.held (Some s) j → (k < get_or a.keys j 0) ⊎ ((k ≡ get_or a.keys j 0) × (p < get_or a.held j 0))
  above k p s j (inl l) (greater u z) = inl (omega arith)
  above k p s j (inl l) (again e n) = inl (omega (arith, e))
  above k p s j (inr h) (greater u z) = inl (omega (arith, h.0))
  above k p s j (inr h) (again e n) = inr (h.0 ∙ e, omega (arith, h.1, n))

  module _ (i : ℕ) (last : Option ℕ) (r : Rises i last) where
    preceded-more : (j : ℕ) → Preceded a i j → Preceded a (suc i) j
    preceded-more j f k p h = let w = f k p h in (w.0, omega (arith, w.1), w.2)

    -- the properties of one slot more
    more : (P : ℕ → Type 0) → ((j : ℕ) → j < i → P j) → P i → (j : ℕ) → j < suc i → P j
    more P f h j l = ⊎_elim (λ (e : j ≡ i). subst P (sym e) h) (f j) (eq-or-lt_of_le (le_of_suc-le-suc l))

    rises-loose : get_or a.keyed i false ≡ false → get_or a.held i 0 ≡ 0 → Rises (suc i) last
    rises-loose off z =
        record {
          early = λ s e. omega (arith, r.early s e);
          keyed = r.keyed;
          highest = λ j k p l h. more (λ x. Holds a k p x → (s : ℕ) × (last ≡ Some s) × Highest k p s) (λ x m. r.highest x k p m) (λ h'. absurd (true≢false (sym h'.keyed ∙ off))) j l h;
          ordered =
              record {
                new = more (New a) r.ordered.new (loose-new a i i off z);
                next = more (Preceded a (suc i)) (λ j l. preceded-more j (r.ordered.next j l)) (λ k p h. absurd (true≢false (sym h.keyed ∙ off)));
              };
        }

    module _ (on : get_or a.keyed i false ≡ true) (f : Follows a.keys a.held last i) where
      higher : (j k p : ℕ) → j < i → Holds a k p j → (k < get_or a.keys i 0) ⊎ ((k ≡ get_or a.keys i 0) × (p < get_or a.held i 0))
      higher j k p l h = let t = r.highest j k p l h in above k p t.0 i t.2 (subst (λ x. Follows a.keys a.held x i) t.1 f)

      before : (k p : ℕ) (last' : Option ℕ) → last ≡ last' → Follows a.keys a.held last' i → Holds a k (suc p) i → (j : ℕ) × (j < suc i) × Holds a k p j
      before k p _ e (first z) h = absurd (omega (arith, z, h.position))
      before k p _ e (greater u z) h = absurd (omega (arith, z, h.position))
      before k p _ e (again {i = s} x n) h = (s, omega (arith, r.early s e), record { keyed = r.keyed s e; key = x ∙ h.key; position = suc_inj (sym n ∙ h.position) })

      rises-keyed : Rises (suc i) (Some i)
      rises-keyed =
          record {
            early = λ s e. let f : i ≡ s = cc in omega (arith, f);
            keyed = λ s e. let f : i ≡ s = cc in subst (λ x. get_or a.keyed x false ≡ true) f on;
            highest = λ j k p l h.
                (i, refl, more (λ x. Holds a k p x → Highest k p i) (λ x m h'. ⊎_elim inl (λ w. inr (w.0, omega (arith, w.1))) (higher x k p m h')) (λ h'. inr (sym h'.key, omega (arith, h'.position))) j l h);
            ordered =
                record {
                  new =
                      more (New a) r.ordered.new
                      (record {
                        once = λ x k p l h h'. ⊎_elim (λ w. omega (arith, w, h'.key)) (λ w. omega (arith, w.1, h'.position)) (higher x k p l h);
                        loose = λ off. absurd (true≢false (sym on ∙ off));
                      });
                  next = more (Preceded a (suc i)) (λ j l. preceded-more j (r.ordered.next j l)) (λ k p h. before k p last refl f h);
                };
          }

  -- one slot more, as the program goes on
  pub rises-on : (i : ℕ) (last : Option ℕ) → Rises i last → Rising a last i → Rises (suc i) (cond (get_or a.keyed i false) (Some i) last)
  rises-on i last r f = go (get_or a.keyed i false) refl
    where
      go : (b : Bool) → get_or a.keyed i false ≡ b → Rises (suc i) (cond b (Some i) last)
      go true e = rises-keyed i last r e (f.follows e)
      go false e = rises-loose i last r e (f.loose e)
