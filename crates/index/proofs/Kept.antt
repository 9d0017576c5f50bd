-- No call makes a misfit.
use mathlib.Core.Path.{◌≡◌, refl, sym, ap, ◌∙◌, subst}
use mathlib.Core.Bool.{Bool, true, false, not, cond, ◌&&◌, ◌||◌}
use mathlib.Core.List.{List, [], ◌∷◌, ◌++◌, map, map-map, map-append}
use mathlib.Core.Option.{none, some}
use Prim.Native.Nat.{ℕ, zero, suc, ◌+◌, ◌-◌, ◌≤◌, ◌<◌}
use native.Mathlib.Omega.{arith}
use lib.ListN.{length, get_elem?, length-map, length-append}
use lib.Dec.{leb, ltb, eqb}
use borrow.Author.Tests.{ltb-true, leb-false, eqb-true, eqb-false, eq-eqb, le-ltb, not-true, not-false, ltb-false}
use Rattle.lists.specs.Keep.{bit, keep, count}
use Rattle.lists.proofs.Keep.{either, each_append, each_keep, each_weaken, length-keep, count-length}
use Rattle.lists.proofs.Front.{each_map}
use Rattle.encode.specs.declared.Header.{Header}
use Rattle.encode.specs.Coded.{fault, no_spare, spare_of}
use Rattle.index.specs.declared.Index.{Index}
use Rattle.index.specs.Arrays.{Arrays, unmarked}
use Rattle.index.specs.State.{Mark, dead, unkeyed, keyed, Slot, State, is_live, live, header_of, capacity, state_of, new_slot, with_mark, with_bits}
use Rattle.index.specs.Fit.{fit}
use Rattle.index.specs.Codec.{encoded}
use Rattle.index.specs.Step.{Op, set_bits, add, add_keyed, add_multi, relabel, remove, remove_at, key_of, contains, slot_of, enable, score, search, search_keyed, search_cascade, compact, file_length, write, Item, Answer, refused, done, flag, slot, first_of, when, unless, Cell, live_from, holds, holds_at, number_where, slot_holding, held_by, is_held, on_mark, relabelled, gap_filled, position_of, overwritten, one_more, rising, compacted, Outcome, answered, with_slots, guarded, appended, remarked, width_set, step}
use Rattle.index.specs.Call.{call}
use Rattle.index.specs.Sound.{Shaped, AllShaped, marks, OnceEach, Ranged, Sound}
use Rattle.index.proofs.Overlay.{SameLengths, same-lengths, overlay-lengths, unmarked-lengths, unmarked-capacity}
use Rattle.lists.proofs.Tests.{and_right}
use Rattle.index.proofs.Marks.{bit-one}
use Rattle.index.proofs.Fits.{fit-sound, sound-fit, laid-back}
use Rattle.index.proofs.Refusals.{either_way}
use Rattle.index.proofs.Encoded.{encoded-shaped}
use Rattle.index.proofs.Changes.{once-unkeyed, once-keyed, once-removed, once-relabelled-same, once-relabelled, once-filled, once-compacted}

-- ---- what a refused call has met, and what an accepted one has passed

pub first-refused : (n later : ℕ) (a : Answer) → (n ≡ 0 → ⊥) → unless (first_of (n ∷ later ∷ [])) a ≡ refused n
unfolding first_of
first-refused zero later a given = absurd (given refl)
first-refused (suc n) later a given = refl

pub first-none : (n : ℕ) (ns : List ℕ) → first_of (n ∷ ns) ≡ 0 → (n ≡ 0) × (first_of ns ≡ 0)
unfolding first_of
first-none zero ns e = (refl, e)
first-none (suc n) ns e = absurd (omega arith)

pub when-none : (b : Bool) (n : ℕ) → when b (suc n) ≡ 0 → b ≡ false
when-none true n e = absurd (omega arith)
when-none false n e = refl

-- ---- look-ups among the live slots are counts of marks

pub live-count : (p : Mark → Bool) → ((u : ℕ) → p (dead u) ≡ false) → (i : ℕ) (ss : List Slot) → count (λ c. p c.slot.mark) (live_from i ss) ≡ count p (marks ss)
unfolding live_from
live-count p d i [] = refl
live-count p d i (s ∷ ss) = go s.mark (live-count p d (suc i) ss)
  where
    go : (m : Mark) → count (λ (c : Cell). p c.slot.mark) (live_from (suc i) ss) ≡ count p (marks ss) →
        count (λ (c : Cell). p c.slot.mark) (live_from i (with_mark s m ∷ ss)) ≡ bit (p m) + count p (marks ss)
    go (dead u) ih = omega (arith, ap bit (d u))
    go (unkeyed u) ih = omega arith
    go (keyed k q) ih = omega arith

number-none : (p : Cell → Bool) (cs : List Cell) → number_where p cs ≡ none → count p cs ≡ 0
unfolding number_where
number-none p [] e = refl
number-none p (c ∷ cs) e = go (p c) refl (number-none p cs)
  where
    go : (b : Bool) → p c ≡ b → (number_where p cs ≡ none → count p cs ≡ 0) → bit (p c) + count p cs ≡ 0
    go true f ih = absurd (let z : ◌≡◌ {A = ℕ} 0 1 = cc in omega arith)
    go false f ih = omega (arith, ap bit f, ih (rw f at e))

-- a slot that has a position of the key
position-held : (j gap : ℕ) (ss : List Slot) (i : ℕ) → position_of j (get_elem? ss i) ≡ some gap → 0 < count (holds_at j gap) (marks ss)
position-held j gap [] i e = absurd (let z : ◌≡◌ {A = ℕ} 0 1 = cc in omega arith)
position-held j gap (s ∷ ss) (suc i) e = omega (arith, position-held j gap ss i e)
position-held j gap (s ∷ ss) zero e = go s.mark e
  where
    go : (m : Mark) → position_of j (some (with_mark s m)) ≡ some gap → 0 < bit (holds_at j gap m) + count (holds_at j gap) (marks ss)
    go (dead u) f = absurd (let z : ◌≡◌ {A = ℕ} 0 1 = cc in omega arith)
    go (unkeyed u) f = absurd (let z : ◌≡◌ {A = ℕ} 0 1 = cc in omega arith)
    go (keyed k p) f = at (eqb k j) f
      where
        at : (b : Bool) → cond b (some p) none ≡ some gap → 0 < bit (b && eqb p gap) + count (holds_at j gap) (marks ss)
        at true g = let e : p ≡ gap = cc in omega (arith, ap bit (eq-eqb p gap e))
        at false g = absurd (let z : ◌≡◌ {A = ℕ} 0 1 = cc in omega arith)

-- ---- slots after a change

marks-on_mark : (f : Mark → Mark) (ss : List Slot) → marks (map (on_mark f) ss) ≡ map f (marks ss)
marks-on_mark f ss = map-map (λ (s : Slot). s.mark) (on_mark f) ss ∙ sym (map-map f (λ (s : Slot). s.mark) ss)

module _ (seen : ℕ → ℕ) (s : Slot) (ss : List Slot) where
  -- the first slot of a compaction has its code and year still, and is live where it was
  pub rising-first : (next : ℕ → ℕ) × (m : Mark) × (rising seen (s ∷ ss) ≡ with_mark s m ∷ rising next ss) × (is_live m ≡ live s)
  unfolding rising
  rising-first = go s.mark
    where
      go : (m : Mark) → (next : ℕ → ℕ) × (n : Mark) × (rising seen (with_mark s m ∷ ss) ≡ with_mark s n ∷ rising next ss) × (is_live n ≡ is_live m)
      go (dead u) = (seen, dead u, refl, refl)
      go (unkeyed u) = (seen, unkeyed u, refl, refl)
      go (keyed k p) = (one_more k seen, keyed k (seen k), refl, refl)

pub rising-length : (seen : ℕ → ℕ) (ss : List Slot) → length (rising seen ss) ≡ length ss
unfolding rising
rising-length seen [] = refl
rising-length seen (s ∷ ss) = let r = rising-first seen s ss in rw r.2 (ap suc (rising-length r.0 ss))

pub rising-shaped : (h : Header) (seen : ℕ → ℕ) (ss : List Slot) → AllShaped h ss → AllShaped h (rising seen ss)
unfolding rising
rising-shaped h seen [] c = tt
rising-shaped h seen (s ∷ ss) c = let r = rising-first seen s ss in rw r.2 (c.0, rising-shaped h r.0 ss c.1)

-- ---- the step

record Kept (a : Arrays) (o : Outcome) : Type 0 where
  state : Sound (capacity o.state.header a) o.state

module _ (a : Arrays) (s : State) (t : Sound (capacity s.header a) s) where
  abbrev room : ℕ
  room = capacity s.header a

  abbrev ms : List Mark
  ms = marks s.slots

  held-count : (j : ℕ) → held_by j (live_from 0 s.slots) ≡ count (holds j) ms
  held-count j = live-count (holds j) (λ u. refl) 0 s.slots

  answered-kept : (b : Answer) → Kept a (answered s b)
  answered-kept b = record { state = t }

  guarded-kept : (refusal : ℕ) (o : Outcome) → (refusal ≡ 0 → Kept a o) → Kept a (guarded s refusal o)
  unfolding guarded
  guarded-kept zero o h = h refl
  guarded-kept (suc n) o h = answered-kept _

  -- other slots, no more than there is room for
  slots_kept : (on : Bool) (ss : List Slot) (b : Answer) → length ss ≤ room → AllShaped s.header ss → OnceEach (marks ss) → Kept a (record { state = with_slots s on ss; answer = b })
  slots_kept on ss b l c o = record { state = record { header = t.header; space = l; shape = c; positions = o } }

  appended-kept : (m : Mark) (v : Item) (y : ℕ) → OnceEach (ms ++ (m ∷ [])) → Kept a (appended room s m v y)
  unfolding appended
  appended-kept m v y o = guarded-kept _ _ (λ e. slots_kept false (s.slots ++ (new ∷ [])) _ (space e) shape (rw (map-append (λ (u : Slot). u.mark) s.slots (new ∷ [])) o))
    where
      new : Slot
      new = new_slot m (encoded s.header no_spare v) y

      space : first_of (fault s.header v.vector ∷ when (leb room (length s.slots)) 8 ∷ []) ≡ 0 → length (s.slots ++ (new ∷ [])) ≤ room
      space e =
          let w = (first-none (when (leb room (length s.slots)) 8) [] (first-none (fault s.header v.vector) (when (leb room (length s.slots)) 8 ∷ []) e).1).0 in
          omega (arith, length-append s.slots (new ∷ []), leb-false room (length s.slots) (when-none (leb room (length s.slots)) 7 w))

      shape : AllShaped s.header (s.slots ++ (new ∷ []))
      shape = each_append (λ u. Shaped s.header u.code) s.slots (new ∷ []) t.shape (encoded-shaped s.header no_spare v, tt)

  marked-kept : (b : Bool) (refusal : ℕ) (f : Mark → Mark) → (b ≡ true → OnceEach (map f ms)) → Kept a (remarked s b refusal f)
  unfolding remarked
  marked-kept true n f o =
      guarded-kept n _ (λ e.
      slots_kept s.cascade (map (on_mark f) s.slots) (flag true) (rw (length-map s.slots (on_mark f)) t.space)
      (each_map (λ u. Shaped s.header u.code) (on_mark f) s.slots t.shape) (rw (marks-on_mark f s.slots) (o refl)))
  marked-kept false n f o = answered-kept (flag false)

  -- ---- call by call

  width-kept : (w : ℕ) → Kept a (width_set s w)
  unfolding width_set
  width-kept w = guarded-kept _ _ (λ e. record { state = record { header = header e; space = omega arith; shape = tt; positions = λ k p. rw (le-ltb p 0 (omega arith)) } })
    where
      plain : (r x : Bool) → (r && not x) ≡ false → (not r || x) ≡ true
      plain true true e = refl
      plain true false e = sym e
      plain false x e = refl

      header : first_of (when (not (leb 4 w && leb w 6)) 5 ∷ when (ltb 0 (length s.slots)) 6 ∷ when (s.header.residual && not (eqb w 4)) 7 ∷ []) ≡ 0 →
          Ranged (with_bits s.header w)
      header e =
          let later = first-none (when (not (leb 4 w && leb w 6)) 5) _ e in
          let last = first-none (when (s.header.residual && not (eqb w 4)) 7) [] (first-none (when (ltb 0 (length s.slots)) 6) _ later.1).1 in
          record {
            dim = t.header.dim;
            working_dim = t.header.working_dim;
            bits = not-false (leb 4 w && leb w 6) (when-none (not (leb 4 w && leb w 6)) 4 later.0);
            residual = plain s.header.residual (eqb w 4) (when-none (s.header.residual && not (eqb w 4)) 6 last.0);
          }

  first-kept : (j : ℕ) (v : Item) (y : ℕ) → slot_holding j 0 (live_from 0 s.slots) ≡ none → Kept a (appended room s (keyed j 0) v y)
  first-kept j v y e = appended-kept (keyed j 0) v y (subst (λ (p : ℕ). OnceEach (ms ++ (keyed j p ∷ []))) free (once-keyed ms t.positions j))
    where
      none_first : count (holds_at j 0) ms ≡ 0
      none_first = sym (live-count (holds_at j 0) (λ u. refl) 0 s.slots) ∙ number-none (λ c. holds_at j 0 c.slot.mark) (live_from 0 s.slots) e

      free : count (holds j) ms ≡ 0
      free = go (ltb 0 (count (holds j) ms)) refl
        where
          go : (b : Bool) → ltb 0 (count (holds j) ms) ≡ b → count (holds j) ms ≡ 0
          go true f = absurd (omega (arith, none_first, t.positions j 0, ap bit f))
          go false f = omega (arith, ltb-false 0 (count (holds j) ms) f)

  overwritten-kept : (j : ℕ) (v : Item) (y : ℕ) (b : Answer) → Kept a (record { state = with_slots s false (map (overwritten s.header j v y) s.slots); answer = b })
  overwritten-kept j v y b =
      slots_kept false (map (overwritten s.header j v y) s.slots) b (rw (length-map s.slots (overwritten s.header j v y)) t.space)
      (each_map (λ u. Shaped s.header u.code) (overwritten s.header j v y) s.slots
      (each_weaken (λ u. Shaped s.header u.code) (λ u. Shaped s.header (overwritten s.header j v y u).code) s.slots
      (λ u c. either (Shaped s.header) (holds_at j 0 u.mark) (encoded-shaped s.header (spare_of s.header u.code) v) c) t.shape))
      (rw (map-map (λ (u : Slot). u.mark) (overwritten s.header j v y) s.slots) t.positions)

  multi-kept : (j : ℕ) (v : Item) (y : ℕ) → Kept a (appended room s (keyed j (held_by j (live_from 0 s.slots))) v y)
  multi-kept j v y = appended-kept (keyed j (held_by j (live_from 0 s.slots))) v y (rw (held-count j) (once-keyed ms t.positions j))

  relabel-kept : (j k : ℕ) → (is_held j (live_from 0 s.slots) && (eqb j k || not (is_held k (live_from 0 s.slots)))) ≡ true → OnceEach (map (relabelled j k) ms)
  relabel-kept j k e = go (eqb j k) refl (and_right (is_held j (live_from 0 s.slots)) (eqb j k || not (is_held k (live_from 0 s.slots))) e)
    where
      go : (b : Bool) → eqb j k ≡ b → (b || not (is_held k (live_from 0 s.slots))) ≡ true → OnceEach (map (relabelled j k) ms)
      go true f g = subst (λ (i : ℕ). OnceEach (map (relabelled j i) ms)) (eqb-true j k f) (once-relabelled-same ms t.positions j)
      go false f g =
          once-relabelled ms t.positions j k (eqb-false j k f)
          (sym (held-count k) ∙ omega (arith, ltb-false 0 (held_by k (live_from 0 s.slots)) (not-true (is_held k (live_from 0 s.slots)) g)))

  gap-kept : (j i gap : ℕ) → position_of j (get_elem? s.slots i) ≡ some gap → OnceEach (map (gap_filled j gap (held_by j (live_from 0 s.slots) - 1)) ms)
  gap-kept j i gap e =
      let low : gap < count (holds j) ms = ltb-true gap (count (holds j) ms) (bit-one (ltb gap (count (holds j) ms)) (omega (arith, position-held j gap s.slots i e, t.positions j gap))) in
      once-filled ms t.positions j gap (held_by j (live_from 0 s.slots) - 1) low (omega (arith, held-count j))

  compact-kept : (on : Bool) → Kept a (record { state = with_slots s on (compacted s.slots); answer = done })
  unfolding compacted
  compact-kept on =
      slots_kept on (compacted s.slots) done
      (omega (arith, rising-length (λ k. 0) (keep live s.slots), length-keep live s.slots, count-length live s.slots, t.space))
      (rising-shaped s.header (λ k. 0) (keep live s.slots) (each_keep (λ u. Shaped s.header u.code) live s.slots t.shape)) (once-compacted s.slots)

  step_kept : (op : Op) → Kept a (step room s op)
  unfolding step
  step_kept (set_bits w) = width-kept w
  step_kept (add v y) = appended-kept (unkeyed 0) v y (once-unkeyed ms t.positions 0)
  step_kept (add_keyed j v y present) = either_way (Kept a) (slot_holding j 0 (live_from 0 s.slots)) _ _ (first-kept j v y) (λ i e. guarded-kept _ _ (λ f. overwritten-kept j v y (slot i)))
  step_kept (add_multi j v y) = multi-kept j v y
  step_kept (relabel j k) = marked-kept _ 0 _ (relabel-kept j k)
  step_kept (remove j present) = marked-kept _ _ _ (λ e. once-removed ms t.positions j)
  step_kept (remove_at j i present) = either_way (Kept a) (position_of j (get_elem? s.slots i)) _ _ (λ e. answered-kept (flag false)) (λ gap e. marked-kept true _ _ (λ f. gap-kept j i gap e))
  step_kept (key_of i) = answered-kept _
  step_kept (contains j) = answered-kept _
  step_kept (slot_of j i) = answered-kept _
  step_kept enable = guarded-kept _ _ (λ e. slots_kept true s.slots done t.space t.shape t.positions)
  step_kept (score i q) = answered-kept _
  step_kept (search q k places) = answered-kept _
  step_kept (search_keyed q k places) = answered-kept _
  step_kept (search_cascade q k r places) = answered-kept _
  step_kept compact = compact-kept _
  step_kept file_length = answered-kept _
  step_kept (write places) = answered-kept _

-- ---- the law

pub fit-kept : (x : Index) (a : Arrays) (op : Op) → fit x a ≡ true → fit (call x a op).index (call x a op).arrays ≡ true
unfolding call state_of
fit-kept x a op e = rw e (sound-fit (step (capacity (header_of x) a) (state_of x a) op).state a (step_kept a (state_of x a) (fit-sound x a e) op).state)

-- After a call the record and the arrays stand for the value that its step gives, and no array's length has changed.
module _ (x : Index) (a : Arrays) (op : Op) (e : fit x a ≡ true) where
  after : Sound (capacity (step (capacity (header_of x) a) (state_of x a) op).state.header a) (step (capacity (header_of x) a) (state_of x a) op).state
  unfolding state_of
  after = (step_kept a (state_of x a) (fit-sound x a e) op).state

  pub call-state : state_of (call x a op).index (call x a op).arrays ≡ (step (capacity (header_of x) a) (state_of x a) op).state
  unfolding call
  call-state = rw e (laid-back (step (capacity (header_of x) a) (state_of x a) op).state a after.shape after.space)

  pub call-lengths : SameLengths (call x a op).arrays a
  unfolding call
  call-lengths =
      let s = (step (capacity (header_of x) a) (state_of x a) op).state in
      rw e (same-lengths (overlay-lengths s.header (unmarked a) s.slots after.shape (rw (unmarked-capacity s.header a) after.space)) (unmarked-lengths a))
