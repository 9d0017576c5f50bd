-- Walks in the tree, and what an entry adds to it.
use mathlib.Core.Path.{◌≡◌, refl, sym, ap, ◌∙◌, subst}
use mathlib.Core.Bool.{true, false, not, true≢false}
use mathlib.Core.Logic.{⊎_elim}
use mathlib.Core.List.{List}
use Prim.Native.Nat.{ℕ, suc, ◌+◌, ◌-◌, ◌*◌, ◌/◌, ◌≤◌, ◌<◌}
use native.Mathlib.Nat.{suc_inj, eq-or-lt_of_le, le_of_suc-le-suc}
use native.Mathlib.Decide.{ℕ_discrete}
use native.Mathlib.Omega.{arith}
use lib.Dec.{eqb}
use lib.Bits.{and_le_r}
use lib.ListN.{length, get_or, set, length-set}
use borrow.Author.Tests.{eqb-true, eqb-false, not-true, not-false}
use lib.Seq.{get_or-set_same, get_or-set_other}
use Rattle.positions.specs.Ordered.{Keys, Holds, New, Preceded, Ordered}
use Rattle.positions.specs.Decides.{Decides}
use Rattle.positions.proofs.Order.{entry-slot}
use Rattle.positions.specs.Tree.{mixed, root_of, branch, Reaches, here, further, Keeps, Same, Node, Tree, Ends, Grown}

pub root-low : (roots key position : ℕ) → 0 < roots → root_of roots key position < roots
unfolding root_of
root-low roots key position h = omega (arith, and_le_r (mixed key + position) (roots - 1))

pub reaches-kept : {roots j : ℕ} {tree tree' : List ℕ} {bits place : ℕ} → Keeps tree tree' → Reaches roots tree j bits place → Reaches roots tree' j bits place
reaches-kept k (here e) = here (k _ _ e)
reaches-kept k (further e r) = further (k _ _ e) (reaches-kept k r)

-- ---- a step of a walk

pub entry-branch : (roots entry slot bits : ℕ) → entry ≡ suc slot → branch roots (entry - 1) bits ≡ branch roots slot bits
entry-branch roots entry slot bits e = ap (λ x. branch roots x bits) {x = entry - 1} {y = slot} (omega (arith, e))

-- ---- a walk

module _ (keys held : List ℕ) (roots : ℕ) (tree : List ℕ) (key position : ℕ) where
  -- The walk is at a place, with some of the key's bits left. `ahead`: a slot that holds what is looked for is not yet passed. `back`: what a walk from here reaches, in
  -- this tree or a greater one, is reached from the root.
  pub record Walks (bits place : ℕ) : Type 0 where
    pub within : place < length tree
    pub early : (n : ℕ) → ((q slot : ℕ) → get_or tree q 0 ≡ suc slot → slot < n) → place < roots + 2 * n
    pub ahead : (j : ℕ) → Reaches roots tree j key (root_of roots key position) → Same keys held key position j → Reaches roots tree j bits place
    pub back : (tree' : List ℕ) (j : ℕ) → Keeps tree tree' → Reaches roots tree' j bits place → Reaches roots tree' j key (root_of roots key position)

  module _ (t : Tree keys held roots tree) where
    pub walk_begins : Walks key (root_of roots key position)
    walk_begins =
        let l = root-low roots key position t.some in
        record {
          within = omega (arith, l, t.size);
          early = λ n h. omega (arith, l);
          ahead = λ j r s. r;
          back = λ tree' j k r. r;
        }

    module _ (bits place slot : ℕ) (w : Walks bits place) (at : get_or tree place 0 ≡ suc slot) (other : Same keys held key position slot → ⊥) where
      passed : (j : ℕ) → Same keys held key position j → Reaches roots tree j bits place → Reaches roots tree j (bits / 2) (branch roots slot bits)
      passed j s (here e) = absurd (other (subst (λ x. Same keys held key position x) (suc_inj (sym e ∙ at)) s))
      passed j s (further e r) = subst (λ x. Reaches roots tree j (bits / 2) (branch roots x bits)) (suc_inj (sym e ∙ at)) r

      pub walk-on : Walks (bits / 2) (branch roots slot bits)
      unfolding branch
      walk-on =
          record {
            within = omega (arith, (t.node place slot at).branches);
            early = λ n h. omega (arith, h place slot at);
            ahead = λ j r s. passed j s (w.ahead j r s);
            back = λ tree' j k r. w.back tree' j k (further (k place slot at) r);
          }

      -- places along a walk rise
      pub walk-later : place < branch roots slot bits
      unfolding branch
      walk-later = omega (arith, (t.node place slot at).later)

  pub walk_ends : (bits place : ℕ) → Walks bits place → ((slot : ℕ) → get_or tree place 0 ≡ suc slot → Same keys held key position slot)
      → Ends keys held roots tree key position place
  walk_ends bits place w f =
      record {
        within = w.within;
        early = w.early;
        found = f;
        missed = λ z j r s. nothing j z (w.ahead j r s);
        free = λ tree' j k e. w.back tree' j k (here e);
      }
    where
      nothing : (j : ℕ) → get_or tree place 0 ≡ 0 → Reaches roots tree j bits place → ⊥
      nothing j z (here e) = omega (arith, z, e)
      nothing j z (further e r) = omega (arith, z, e)

-- ---- an entry

module _ (a : Keys) (roots slot : ℕ) (tree : List ℕ) (g : Grown a roots slot tree) where
  pub skipped : get_or a.keyed slot false ≡ false → Grown a roots (suc slot) tree
  skipped off =
      record {
        sound = g.sound;
        only = λ q i e. let o = g.only q i e in (omega (arith, o.0), o.1);
        all = λ j l k. ⊎_elim (λ (e : j ≡ slot). absurd (true≢false (sym k ∙ ap (λ x. get_or a.keyed x false) e ∙ off))) (λ m. g.all j m k) (eq-or-lt_of_le (le_of_suc-le-suc l));
      }

  module _ (on : get_or a.keyed slot false ≡ true) (place : ℕ) (ends : Ends a.keys a.held roots tree (get_or a.keys slot 0) (get_or a.held slot 0) place) where
    -- what stands at the end of the walk is an earlier slot that holds the same
    pub met-twice : (n i : ℕ) → slot < n → get_or tree place 0 ≡ suc i → Ordered a n → ⊥
    met-twice n i l e o =
        let f = ends.found i e in
        let b = g.only place i e in
        (o.new slot l).once i _ _ b.0 (record { keyed = b.1; key = f.0; position = f.1 }) (record { keyed = on; key = refl; position = refl })

    module _ (free : get_or tree place 0 ≡ 0) where
      pub entered-new : New a slot
      entered-new =
          record {
            once = λ i k p l h h'.
                let x : get_or a.keys i 0 ≡ get_or a.keys slot 0 = h.key ∙ sym h'.key in
                let y : get_or a.held i 0 ≡ get_or a.held slot 0 = h.position ∙ sym h'.position in
                ends.missed free i (rw (x, y) at (g.all i l h.keyed)) (x, y);
            loose = λ off. absurd (true≢false (sym on ∙ off));
          }

      keeps : Keeps tree (set tree place (suc slot))
      keeps q i e = get_or-set_other tree place q (suc slot) 0 (λ d. omega (arith, sym e ∙ ap (λ x. get_or tree x 0) d ∙ free)) ∙ e

      -- each entry of the greater tree is the new one or an old one
      which : (P : ℕ → ℕ → Type 0) → P place slot → ((q i : ℕ) → get_or tree q 0 ≡ suc i → P q i) → (q i : ℕ) → get_or (set tree place (suc slot)) q 0 ≡ suc i → P q i
      which P new old q i e = go (ℕ_discrete q place)
        where
          go : Dec (q ≡ place) → P q i
          go (yes d) =
              let f : suc slot ≡ suc i = sym (get_or-set_same tree place (suc slot) 0 ends.within) ∙ sym (ap (λ x. get_or (set tree place (suc slot)) x 0) d) ∙ e in
              subst (λ x. P x i) (sym d) (subst (λ x. P place x) (suc_inj f) new)
          go (no d) = old q i (sym (get_or-set_other tree place q (suc slot) 0 d) ∙ e)

      pub entered : slot < length a.keys → slot < length a.held → roots + 2 * slot + 2 ≤ length tree → Grown a roots (suc slot) (set tree place (suc slot))
      entered lk lh lt =
          record {
            sound =
                record {
                  some = g.sound.some;
                  size = rw (length-set tree place (suc slot)) g.sound.size;
                  node =
                      rw (length-set tree place (suc slot))
                      (which (Node a.keys a.held roots (length tree))
                      (record { has_key = lk; has-position = lh; later = ends.early slot (λ q i e. (g.only q i e).0); branches = lt })
                      g.sound.node);
                };
            only = which (λ q i. (i < suc slot) × (get_or a.keyed i false ≡ true)) (omega arith, on) (λ q i e. let o = g.only q i e in (omega (arith, o.0), o.1));
            all = λ j l k.
                ⊎_elim
                (λ (e : j ≡ slot). subst (λ x. Reaches roots (set tree place (suc slot)) x (get_or a.keys x 0) (root_of roots (get_or a.keys x 0) (get_or a.held x 0))) (sym e)
                (ends.free (set tree place (suc slot)) slot keeps (get_or-set_same tree place (suc slot) 0 ends.within)))
                (λ m. reaches-kept keeps (g.all j m k))
                (eq-or-lt_of_le (le_of_suc-le-suc l));
          }

-- nothing is in a tree of free places
pub bare : (a : Keys) (roots : ℕ) (tree : List ℕ) → 0 < roots → roots ≤ length tree → ((q : ℕ) → get_or tree q 0 ≡ 0) → Grown a roots 0 tree
bare a roots tree h l z =
    record {
      sound = record { some = h; size = l; node = λ q i e. absurd (omega (arith, z q, e)) };
      only = λ q i e. absurd (omega (arith, z q, e));
      all = λ j m k. absurd (omega arith);
    }

-- ---- looking a position up

module _ (a : Keys) (roots n : ℕ) (tree : List ℕ) (g : Grown a roots n tree) (key position place : ℕ) (ends : Ends a.keys a.held roots tree key position place) where
  pub looked-up : (i : ℕ) → get_or tree place 0 ≡ suc i → (i < n) × Holds a key position i
  looked-up i e =
      let o = g.only place i e in
      let f = ends.found i e in
      (o.0, record { keyed = o.1; key = f.0; position = f.1 })

  pub not_there : get_or tree place 0 ≡ 0 → (i : ℕ) → i < n → Holds a key position i → ⊥
  not_there z i l h = ends.missed z i (rw (h.key, h.position) at (g.all i l h.keyed)) (h.key, h.position)

module _ (a : Keys) (n slot : ℕ) where
  pub preceded-by : (roots : ℕ) (tree : List ℕ) → Grown a roots n tree → get_or a.keyed slot false ≡ true → (get_or a.held slot 0 ≡ 0 → ⊥) → (place : ℕ)
      → Ends a.keys a.held roots tree (get_or a.keys slot 0) (get_or a.held slot 0 - 1) place → Decides (not (eqb (get_or tree place 0) 0)) (Preceded a n slot)
  preceded-by roots tree g on above place ends =
      record {
        yes = λ e k p h.
            let i = get_or tree place 0 - 1 in
            let u = looked-up a roots n tree g _ _ place ends i (entry-slot _ (eqb-false _ _ (not-true _ e))) in
            (i, u.0, record { keyed = u.1.keyed; key = u.1.key ∙ h.key; position = omega (arith, u.1.position, h.position) });
        no = λ e f.
            let w = f (get_or a.keys slot 0) (get_or a.held slot 0 - 1) (record { keyed = on; key = refl; position = entry-slot _ above }) in
            not_there a roots n tree g _ _ place ends (eqb-true _ _ (not-false _ e)) w.0 w.1 w.2;
      }
