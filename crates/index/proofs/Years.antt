-- A live slot does not go before its time (specs/Years.antt).
use mathlib.Core.Path.{◌≡◌, refl, sym, ap, ◌∙◌, subst}
use mathlib.Core.Bool.{Bool, true, false, not, cond, ◌&&◌}
use mathlib.Core.List.{List, [], ◌∷◌, map}
use mathlib.Core.Option
use mathlib.Core.Option.{none, some}
use Prim.Native.Nat.{ℕ, zero, suc}
use native.Mathlib.Omega.{arith}
use lib.ListN.{length, take, get_elem?}
use lib.Dec.{T, leb, ltb, eqb}
use borrow.Author.Tests.{ltb-false}
use Rattle.lists.specs.Keep.{keep, count}
use Rattle.lists.proofs.Members.{any_none}
use Rattle.index.specs.State.{Mark, dead, unkeyed, keyed, Slot, State, is_live, live, header_of, capacity, state_of, with_mark}
use Rattle.index.specs.Fit.{fit}
use Rattle.index.specs.Step.{Op, set_bits, add, add_keyed, add_multi, relabel, remove, remove_at, key_of, contains, slot_of, enable, score, search, search_keyed, search_cascade, compact, file_length, write, Item, refused, slot, first_of, when, live_from, holds, holds_at, slot_holding, on_mark, removed, relabelled, gap_filled, position_of, overwritten, must_stay, any_must_stay, rising, compacted, Outcome, with_slots, guarded, appended, remarked, width_set, step}
use Rattle.index.specs.Call.{Result, call}
use Rattle.lists.proofs.Entries.{elem-map, each-elem, elem-append, elem-keep, elem-below}
use Rattle.index.specs.Years.{protected, number_after, Stands, StaysInTime}
use Rattle.index.proofs.Refusals.{either_way}
use Rattle.index.proofs.Kept.{first-none, when-none, rising-first, call-state}
use Rattle.index.proofs.Calls.{call-misfit, call_fits}

-- ---- marks that stay live

removed-lives : (j : ℕ) (m : Mark) → holds j m ≡ false → is_live m ≡ true → is_live (removed j m) ≡ true
removed-lives j (dead u) e l = l
removed-lives j (unkeyed u) e l = l
removed-lives j (keyed k p) e l = rw e

relabelled-lives : (j k : ℕ) (m : Mark) → is_live m ≡ true → is_live (relabelled j k m) ≡ true
relabelled-lives j k (dead u) l = l
relabelled-lives j k (unkeyed u) l = l
relabelled-lives j k (keyed i p) l = go (eqb i j)
  where
    go : (b : Bool) → is_live (cond b (keyed k p) (keyed i p)) ≡ true
    go true = refl
    go false = refl

filled-lives : (j gap last : ℕ) (m : Mark) → holds_at j gap m ≡ false → is_live m ≡ true → is_live (gap_filled j gap last m) ≡ true
filled-lives j gap last (dead u) e l = l
filled-lives j gap last (unkeyed u) e l = l
filled-lives j gap last (keyed k p) e l = go (eqb k j) (eqb p gap) (eqb p last) e
  where
    go : (b x y : Bool) → (b && x) ≡ false → is_live (cond b (cond x (dead k) (cond y (keyed k gap) (keyed k p))) (keyed k p)) ≡ true
    go true true y f = sym f
    go true false true f = refl
    go true false false f = refl
    go false x y f = refl

-- a live slot among those whose positions rise
rising-stands : (seen : ℕ → ℕ) (ss : List Slot) (i : ℕ) (t : Slot) → get_elem? ss i ≡ some t → live t ≡ true → Stands i t (rising seen ss)
unfolding rising
rising-stands seen [] i t e l = absurd (let z : ◌≡◌ {A = ℕ} 0 1 = cc in omega arith)
rising-stands seen (s ∷ ss) zero t e l =
    let r = rising-first seen s ss in
    let f : s ≡ t = cc in
    rw r.2 (record { slot = with_mark s r.1; in_use = refl; live = r.3 ∙ ap live f ∙ l; code = ap (λ (u : Slot). u.code) f; year = ap (λ (u : Slot). u.year) f })
rising-stands seen (s ∷ ss) (suc i) t e l =
    let r = rising-first seen s ss in
    let h = rising-stands r.0 ss i t e l in
    rw r.2 (record { slot = h.slot; in_use = h.in_use; live = h.live; code = h.code; year = h.year })

-- ---- the step, for a live slot

module _ (s : State) (i : ℕ) (t : Slot) (here : get_elem? s.slots i ≡ some t) (alive : live t ≡ true) where
  as_it_was : Stands i t s.slots
  as_it_was = record { slot = t; in_use = here; live = alive; code = refl; year = refl }

  guarded-stands : (refusal : ℕ) (o : Outcome) → (refusal ≡ 0 → Stands i t o.state.slots) → Stands i t (guarded s refusal o).state.slots
  unfolding guarded
  guarded-stands zero o h = h refl
  guarded-stands (suc n) o h = as_it_was

  appended-stands : (room : ℕ) (m : Mark) (v : Item) (y : ℕ) → Stands i t (appended room s m v y).state.slots
  unfolding appended
  appended-stands room m v y = guarded-stands _ _ (λ e. record { slot = t; in_use = elem-append s.slots _ i t here; live = alive; code = refl; year = refl })

  marked-stands : (b : Bool) (refusal : ℕ) (f : Mark → Mark) → (refusal ≡ 0 → is_live (f t.mark) ≡ true) → Stands i t (remarked s b refusal f).state.slots
  unfolding remarked
  marked-stands true n f h =
      guarded-stands n _ (λ e. record { slot = on_mark f t; in_use = elem-map (on_mark f) s.slots i ∙ ap (Option.map (on_mark f)) here; live = h e; code = refl; year = refl })
  marked-stands false n f h = as_it_was

  -- a call that 21 does not turn down takes no slot that must stay
  spared : (taken : Mark → Bool) (present : ℕ) → must_stay present t.year ≡ true → when (any_must_stay taken present s.slots) 21 ≡ 0 → taken t.mark ≡ false
  unfolding any_must_stay
  spared taken present stay e =
      go (taken t.mark) (must_stay present t.year) stay
      (each-elem (λ u. (taken u.mark && must_stay present u.year) ≡ false) s.slots i t here (any_none _ s.slots (when-none (any_must_stay taken present s.slots) 20 e)))
    where
      go : (b c : Bool) → c ≡ true → (b && c) ≡ false → b ≡ false
      go true c g f = absurd (subst T (sym g ∙ f) tt)
      go false c g f = refl

  width-stands : (w : ℕ) → Stands i t (width_set s w).state.slots
  unfolding width_set
  width-stands w = guarded-stands _ _ (λ e. absurd (none-in-use e))
    where
      none-in-use : first_of (when (not (leb 4 w && leb w 6)) 5 ∷ when (ltb 0 (length s.slots)) 6 ∷ when (s.header.residual && not (eqb w 4)) 7 ∷ []) ≡ 0 → ⊥
      none-in-use e =
          let later = (first-none (when (not (leb 4 w && leb w 6)) 5) _ e).1 in
          let none = ltb-false 0 (length s.slots) (when-none (ltb 0 (length s.slots)) 5 (first-none (when (ltb 0 (length s.slots)) 6) _ later).0) in
          omega (arith, none, elem-below s.slots i t here)

  overwritten-stands : (j : ℕ) (v : Item) (y refusal number : ℕ) → (refusal ≡ 0 → holds_at j 0 t.mark ≡ false) →
      Stands i t (guarded s refusal (record { state = with_slots s false (map (overwritten s.header j v y) s.slots); answer = slot number })).state.slots
  overwritten-stands j v y refusal number h =
      guarded-stands refusal _ (λ e. record {
        slot = overwritten s.header j v y t;
        in_use = elem-map (overwritten s.header j v y) s.slots i ∙ ap (Option.map (overwritten s.header j v y)) here;
        live = alive;
        code = rw (h e);
        year = rw (h e);
      })

  compacted-stands : Stands (count live (take i s.slots)) t (compacted s.slots)
  unfolding compacted
  compacted-stands = rising-stands (λ k. 0) (keep live s.slots) (count live (take i s.slots)) t (elem-keep live s.slots i t here alive) alive

  step-stands : (room : ℕ) (op : Op) → protected op t.year ≡ true → let o = step room s op in Stands (number_after op o.answer s.slots i) t o.state.slots
  unfolding step
  step-stands room (set_bits w) e = width-stands w
  step-stands room (add v y) e = appended-stands room _ v y
  step-stands room (add_keyed j v y present) e =
      either_way (λ o. Stands i t o.state.slots) (slot_holding j 0 (live_from 0 s.slots)) _ _ (λ f. appended-stands room _ v y)
      (λ n f. overwritten-stands j v y _ n (λ g. spared _ present e (first-none _ [] (first-none _ _ g).1).0))
  step-stands room (add_multi j v y) e = appended-stands room _ v y
  step-stands room (relabel j k) e = marked-stands _ _ _ (λ f. relabelled-lives j k t.mark alive)
  step-stands room (remove j present) e = marked-stands _ _ _ (λ f. removed-lives j t.mark (spared _ present e f) alive)
  step-stands room (remove_at j n present) e =
      either_way (λ o. Stands i t o.state.slots) (position_of j (get_elem? s.slots n)) _ _ (λ f. as_it_was)
      (λ gap f. marked-stands true _ _ (λ g. filled-lives j gap _ t.mark (spared _ present e g) alive))
  step-stands room (key_of n) e = as_it_was
  step-stands room (contains j) e = as_it_was
  step-stands room (slot_of j n) e = as_it_was
  step-stands room enable e = guarded-stands _ _ (λ f. as_it_was)
  step-stands room (score n q) e = as_it_was
  step-stands room (search q k places) e = as_it_was
  step-stands room (search_keyed q k places) e = as_it_was
  step-stands room (search_cascade q k r places) e = as_it_was
  step-stands room compact e = compacted-stands
  step-stands room file_length e = as_it_was
  step-stands room (write places) e = as_it_was

-- ---- the law

-- where 13 leaves all as it was
own-number : (op : Op) (ss : List Slot) (i : ℕ) → number_after op (refused 13) ss i ≡ i
own-number compact ss i = refl
own-number op ss i = refl

pub stays-in-time : StaysInTime
stays-in-time x a op i s here alive kept = go (fit x a) refl
  where
    go : (b : Bool) → fit x a ≡ b → Stands (number_after op (call x a op).answer (state_of x a).slots i) s (state_of (call x a op).index (call x a op).arrays).slots
    go false f = rw (call-misfit x a op f, own-number op (state_of x a).slots i) (as_it_was (state_of x a) i s here alive)
    go true f =
        let o = step (capacity (header_of x) a) (state_of x a) op in
        rw (ap (λ (r : Result). r.answer) (call_fits x a op f))
        (subst (λ (u : State). Stands (number_after op o.answer (state_of x a).slots i) s u.slots) (sym (call-state x a op f))
        (step-stands (state_of x a) i s here alive (capacity (header_of x) a) op kept))
