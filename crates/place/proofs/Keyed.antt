-- The three calls: which slot they write, by the scan for the key.
use mathlib.Core.Path.{◌≡◌, refl, sym, ap, ◌∙◌}
use mathlib.Core.Bool.{Bool, true, false}
use mathlib.Core.List.{[], ◌∷◌, map}
use mathlib.Core.Option as Found
use mathlib.Core.Option.{none, some}
use Rattle.std.specs.Prelude.{Option, Some, None}
use Prim.Native.Nat.{ℕ, suc, ◌≤◌, ◌<◌}
use native.Mathlib.Omega.{arith}
use native.Mathlib.Decide.{dec_lt}
use borrow.Author.Tests.{eq-eqb, ne_eqb}
use lib.Dec.{eqb}
use Rattle.lists.proofs.Laws.{length-tab}
use Rattle.lists.proofs.Keep.{count-length}
use Rattle.lists.specs.Lists.{below}
use Rattle.encode.specs.Coded.{fault}
use Rattle.refusal.specs.declared.Refusal.{Refusal}
use Rattle.refusal.specs.Refusal.{number_of}
use Rattle.refusal.proofs.Numbers.{above_0}
use Rattle.index.specs.declared.Index.{Index}
use Rattle.index.specs.Arrays.{Arrays}
use Rattle.index.specs.State.{keyed, position, header_of, capacity, slot_at, state_of}
use Rattle.index.specs.Fit.{fit}
use Rattle.index.specs.Step.{Item, add, add_keyed, add_multi, first_of, when, live_from, holds_at, slot_holding, overwritten, any_must_stay, refused, slot, Outcome, with_slots, guarded, appended, step}
use Rattle.index.specs.Call.{Result, laid_over, call}
use Rattle.index.specs.Answers.{result_of}
use Rattle.index.proofs.Overlay.{roomy}
use Rattle.index.proofs.Calls.{call-misfit, call_fits}
use Rattle.slot_keys.specs.Has.{slot_has}
use Rattle.held.specs.Held.{held_count, slot_holds, held_slot}
use Rattle.held.proofs.Value.{mark-holds_at, held_by_lem, slot-found, slot-missing, missing-end, found-holds, only-slot}
use Rattle.retention.proofs.Stays.{only-stays}
use Rattle.place.specs.declared.Adding.{Adding}
use Rattle.place.specs.declared.Spot.{Spot}
use Rattle.place.specs.Place.{put_code, put_mark, Markable, after_add, refusal}
use Rattle.place.specs.Adding.{op_of, spot, spot_of, mark_for, mark_of_spot}
use Rattle.place.proofs.Calls.{Accepted, accepted, few-slots, unless_refused, refused_as, wrote, both-put, refuse-misfit}
use Rattle.place.proofs.Append.{append-fits}
use Rattle.place.proofs.Overwrite.{overwrite-fits}

-- how many slots a key has
spot-low : (w : Adding) (x : Index) (a : Arrays) → position (mark_of_spot (spot_of w a x.n)) ≤ x.n
spot-low Adding.Unkeyed x a = omega arith
spot-low (Adding.Keyed k present) x a = omega arith
spot-low (Adding.Multi k) x a = omega (arith, count-length (slot_has a.keys a.keyed k) (below x.n), length-tab (λ (i : ℕ). i) x.n)

module _ (x : Index) (a : Arrays) (v : Item) (y : ℕ) where
  -- a spot written, unless that is refused
  abbrev puts : Adding → Spot → (fresh : Bool) → Result
  puts w s fresh = unless_refused x a (refusal x a w s.slot v) (wrote x a s fresh v y)

  module _ (e : fit x a ≡ true) where
    -- behind the slots in use
    behind : (w : Adding) (k : Option (ℕ × ℕ)) (n : ℕ) → n ≡ x.n →
        puts w (spot n k) (eqb n x.n) ≡ laid_over a (appended (capacity (header_of x) a) (state_of x a) (mark_for k) v y)
    behind w k n is =
        ap (puts w (spot n k)) (eq-eqb n x.n is) ∙ ap (λ (i : ℕ). puts w (spot i k) true) is ∙ append-fits x a w k v y e

    multi-fits : (j : ℕ) → puts (Adding.Multi j) (spot x.n (Some (j, held_count a.keys a.keyed x.n j))) (eqb x.n x.n) ≡ call x a (add_multi j v y)
    unfolding step
    multi-fits j =
        behind (Adding.Multi j) (Some (j, held_count a.keys a.keyed x.n j)) x.n refl
        ∙ ap (λ (q : ℕ). laid_over a (appended (capacity (header_of x) a) (state_of x a) (keyed j q) v y)) (sym (held_by_lem x a e j))
        ∙ sym (call_fits x a (add_multi j v y) e)

    add-fits : puts Adding.Unkeyed (spot x.n None) (eqb x.n x.n) ≡ call x a (add v y)
    unfolding step
    add-fits = behind Adding.Unkeyed None x.n refl ∙ sym (call_fits x a (add v y) e)

    module _ (j present : ℕ) where
      -- the slot that holds position 0 of the key
      abbrev at : ℕ
      at = held_slot a.keys a.keyed a.held x.n j 0

      -- the step, by what the scan for it finds
      abbrev step_if : Found.Option ℕ → Outcome
      step_if o =
          elim o [
            | none ↦ appended (capacity (header_of x) a) (state_of x a) (keyed j 0) v y
            | some i ↦
                guarded (state_of x a)
                (first_of (fault (state_of x a).header v.vector ∷ when (any_must_stay (holds_at j 0) present (state_of x a).slots) 21 ∷ []))
                (record { state = with_slots (state_of x a) false (map (overwritten (state_of x a).header j v y) (state_of x a).slots); answer = slot i })
          ]

      step_is : step_if (slot_holding j 0 (live_from 0 (state_of x a).slots)) ≡ step (capacity (header_of x) a) (state_of x a) (add_keyed j v y present)
      unfolding step
      step_is = refl

      -- no other slot holds it
      others : (m : ℕ) → m < x.n → (m ≡ at → ⊥) → holds_at j 0 (slot_at (header_of x) a m).mark ≡ false
      others m k ne = mark-holds_at x a e m k j 0 ∙ go (slot_holds a.keys a.keyed a.held j 0 m) refl
        where
          go : (b : Bool) → slot_holds a.keys a.keyed a.held j 0 m ≡ b → b ≡ false
          go true q = absurd (ne (sym (only-slot x a e j 0 m k q)))
          go false q = refl

      abbrev adding : Adding
      adding = Adding.Keyed j present

      over : at < x.n → puts adding (spot at (Some (j, 0))) (eqb at x.n) ≡ call x a (add_keyed j v y present)
      unfolding state_of
      over l =
          let other : at ≡ x.n → ⊥ = λ q. omega (arith, l, q) in
          ap (puts adding (spot at (Some (j, 0)))) (ne_eqb at x.n other)
          ∙ overwrite-fits x a at v y e l j (mark-holds_at x a e at l j 0 ∙ found-holds x a e j 0 l) others present
          (only-stays x a e j present 0 at l (found-holds x a e j 0 l))
          ∙ ap (laid_over a) (sym (ap step_if (slot-found x a e j 0 l)) ∙ step_is) ∙ sym (call_fits x a (add_keyed j v y present) e)

      first : x.n ≤ at → puts adding (spot at (Some (j, 0))) (eqb at x.n) ≡ call x a (add_keyed j v y present)
      first l =
          behind adding (Some (j, 0)) at (missing-end x a e j 0 l)
          ∙ ap (laid_over a) (sym (ap step_if (slot-missing x a e j 0 l)) ∙ step_is) ∙ sym (call_fits x a (add_keyed j v y present) e)

      keyed-fits : puts adding (spot at (Some (j, 0))) (eqb at x.n) ≡ call x a (add_keyed j v y present)
      keyed-fits = elim (dec_lt at x.n) [ yes l ↦ over l | no l ↦ first (omega (arith, l)) ]

  -- the three calls
  module _ (w : Adding) where
    abbrev place : Spot
    place = spot_of w a x.n

    pub put-call : puts w place (eqb place.slot x.n) ≡ call x a (op_of w v y)
    put-call = go (fit x a) refl w
      where
        go : (b : Bool) → fit x a ≡ b → (w : Adding) →
            let s = spot_of w a x.n in puts w s (eqb s.slot x.n) ≡ call x a (op_of w v y)
        go true e Adding.Unkeyed = add-fits e
        go true e (Adding.Keyed j present) = keyed-fits e j present
        go true e (Adding.Multi j) = multi-fits e j
        go false e w =
            let s = spot_of w a x.n in
            sym (ap (λ (n : ℕ). unless_refused x a n (wrote x a s (eqb s.slot x.n) v y)) (refuse-misfit x a w s.slot v e))
            ∙ sym (call-misfit x a (op_of w v y) e)

    -- ---- as the program meets it, by a view of the arrays

    module _ (view : Arrays) (same : view ≡ a) (s : Spot) (found : s ≡ spot_of w view x.n) where
      is : s ≡ place
      is = found ∙ ap (λ (b : Arrays). spot_of w b x.n) same

      abbrev after : Result
      after = wrote x a s (eqb s.slot x.n) v y

      answered : (n : ℕ) → n ≡ refusal x view w s.slot v → unless_refused x a n after ≡ call x a (op_of w v y)
      answered n e =
          (λ j. unless_refused x a ((e ∙ ap (λ (b : Arrays). refusal x b w s.slot v) same) j) after)
          ∙ ap (λ (t : Spot). puts w t (eqb t.slot x.n)) is ∙ put-call

      pub refused-call : (r : Refusal) → number_of r ≡ refusal x view w s.slot v → result_of x a (refused (number_of r)) ≡ call x a (op_of w v y)
      refused-call r e = refused_as x a (number_of r) after (above_0 r) ∙ answered (number_of r) e

      module _ (none : 0 ≡ refusal x view w s.slot v) where
        pub ok : Accepted x a s.slot v
        ok = accepted x a w s.slot v (sym (none ∙ ap (λ (b : Arrays). refusal x b w s.slot v) same))

        position-low : position (mark_of_spot s) ≤ 65536
        position-low = omega (arith, ap (λ (t : Spot). position (mark_of_spot t)) is, spot-low w x a, few-slots x a s.slot v ok)

        pub markable : (fresh : Bool) → Markable (put_code (header_of x) a fresh s.slot v) s.slot (mark_of_spot s)
        unfolding put_code
        markable fresh =
            let r = roomy (suc s.slot) (header_of x) a ok.below in
            record { keys = r.keys; keyed = r.keyed; held = r.held; years = r.years; position = position-low }

        pub accepted-call : (b c : Arrays) → b ≡ put_code (header_of x) a (eqb s.slot x.n) s.slot v → c ≡ put_mark b s.slot (mark_of_spot s) y →
            (z : Index) → z ≡ after_add x (eqb s.slot x.n) → result_of z c (slot s.slot) ≡ call x a (op_of w v y)
        accepted-call b c p q z e =
            (λ j. result_of (e j) ((q ∙ ap (λ (d : Arrays). put_mark d s.slot (mark_of_spot s) y) p ∙ both-put x a s (eqb s.slot x.n) v y) j) (slot s.slot))
            ∙ answered 0 none
