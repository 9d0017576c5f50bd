-- The removals: those that 21 turns down, and the accepted ones by the lists that the inner functions leave.
use mathlib.Core.Path.{◌≡◌, refl, sym, ap, ◌∙◌}
use mathlib.Core.Bool.{Bool, true, false, cond, ◌&&◌}
use mathlib.Core.Logic.{◌≢◌}
use mathlib.Core.List.{List}
use mathlib.Core.Option.{Option, none, some}
use Prim.Native.Nat.{ℕ, ◌-◌, ◌≤◌, ◌<◌}
use native.Mathlib.Omega.{arith}
use native.Mathlib.Decide.{dec_lt}
use lib.ListN.{length, get_or, get_elem?, set, length-set}
use lib.Dec.{ltb}
use borrow.Author.Tests.{lt-ltb, le-ltb, ltb-true, eq-eqb}
use Rattle.lists.specs.Lists.{tab, below}
use Rattle.lists.specs.Keep.{bit, count}
use Rattle.lists.proofs.Laws.{tab-ext}
use Rattle.lists.proofs.Keep.{count_map}
use Rattle.lists.proofs.Front.{over-ext, map-tab}
use Rattle.index.specs.declared.Index.{Index}
use Rattle.index.specs.Arrays.{Arrays}
use Rattle.index.specs.State.{Mark, dead, unkeyed, slot_at, state_of, alive_of, has_key, key_word, position}
use Rattle.index.specs.Fit.{fit}
use Rattle.index.specs.Step.{Op, flag, refused, when, must_stay, any_must_stay, Outcome, live_from, held_by, holds, holds_at, answered, guarded, remarked, step, remove, removed, remove_at, gap_filled, position_of}
use Rattle.index.specs.Call.{call}
use Rattle.index.specs.Answers.{result_of}
use Rattle.index.proofs.Calls.{outcome, call-answered}
use Rattle.lists.proofs.Tests.{and_left, and_right}
use Rattle.index.proofs.Marks.{bit-one}
use Rattle.positions.proofs.Slots.{count_at}
use Rattle.slot_keys.specs.Has.{slot_has}
use Rattle.held.specs.Held.{held_count, slot_holds, held_slot}
use Rattle.held.proofs.Value.{mark-holds_at, position_in, slot-past, held_by_lem, is-held, found-holds, position-found, held-once, only-slot}
use Rattle.retention.specs.Stays.{key_must_stay}
use Rattle.retention.proofs.Stays.{key-stays, only-stays}
use Rattle.remarking.specs.Replaced.{replaced_where}
use Rattle.remarking.specs.Live.{with_live}
use Rattle.removal.specs.Dead.{SlotMarks, dead_at, dead_where, placed_at}
use Rattle.removal.proofs.Parts.{killing, placed, removed-kills, filled-kills, killing-word, killing-part, killing-live}
use Rattle.removal.proofs.Only.{Only, set_at, set-later, set-only}
use Rattle.remarking.proofs.Marked.{room, has-at, part_same, part-other, mark_at, word_at, keyed-at, held_at, alive-at, parts_of, live-few, marked-call}

-- ---- the arrays with some of them changed

abbrev pub marks_of : Arrays → SlotMarks
marks_of a = record { keyed = a.keyed; held = a.held; alive = a.alive }

abbrev pub with_marks : Arrays → SlotMarks → Arrays
with_marks a w =
    record {
      codes = a.codes;
      scales = a.scales;
      keys = a.keys;
      keyed = w.keyed;
      held = w.held;
      alive = w.alive;
      codes2 = a.codes2;
      scales2 = a.scales2;
      years = a.years;
    }

count-tab : {X Y : Type 0} (p : X → Bool) (q : Y → Bool) (f : ℕ → X) (g : ℕ → Y) (n : ℕ) → ((i : ℕ) → i < n → p (f i) ≡ q (g i)) →
    count p (tab f n) ≡ count q (tab g n)
count-tab p q f g n e =
    sym (count_map p (λ b. b) (tab f n))
    ∙ ap (count (λ b. b)) (map-tab p f n ∙ tab-ext (λ i. p (f i)) (λ i. q (g i)) n e ∙ sym (map-tab q g n))
    ∙ count_map q (λ b. b) (tab g n)

module _ (x : Index) (a : Arrays) (e : fit x a ≡ true) where
  -- a slot holds a position by its mark as by the arrays
  holds_at_lem : (j i : ℕ) → i < x.n → (p : ℕ) → holds_at j p (mark_at a i) ≡ slot_holds a.keys a.keyed a.held j p i
  unfolding slot_at
  holds_at_lem j i l p = mark-holds_at x a e i l j p

  -- ---- removal: slots that pass a test die, and the others have a place

  module _ (dies : Mark → Bool) (place : Mark → ℕ) (op : Op) (o : outcome x a op e ≡ remarked (state_of x a) true 0 (killing dies place)) where
    module _
        (not_dead : (u : ℕ) → dies (dead u) ≡ false)
        (not-unkeyed : (u : ℕ) → dies (unkeyed u) ≡ false)
        (p : ℕ → Bool)
        (same : (i : ℕ) → i < x.n → dies (mark_at a i) ≡ p i)
      where
        abbrev kill : Mark → Mark
        kill = killing dies place

        how-many : count dies (tab (mark_at a) x.n) ≡ count p (below x.n)
        how-many = count-tab dies p (mark_at a) (λ i. i) x.n same

        killed-few : count p (below x.n) ≤ x.live
        killed-few = omega (arith, sym how-many, live-few x a e kill dies (killing-live dies place not_dead not-unkeyed))

        killed-call : (w : SlotMarks) → parts_of x a e kill position a.held ≡ w.held → replaced_where p x.n false false a.keyed ≡ w.keyed →
            replaced_where p x.n 0 0 a.alive ≡ w.alive →
            call x a op ≡ result_of (with_live x (x.live - count p (below x.n))) (with_marks a w) (flag true)
        killed-call w hs ks ls =
            marked-call x a e kill op dies o (killing-live dies place not_dead not-unkeyed)
            ∙ (λ j. record {
              index = with_live x (x.live - how-many j);
              arrays =
                  record {
                    codes = a.codes;
                    scales = a.scales;
                    keys = part_same x a e kill key_word a.keys 0 (word_at x a e) (room x a e).keys (killing-word dies place) j;
                    keyed =
                        (part-other x a e kill has_key a.keyed false (keyed-at x a e) dies p false same
                        (killing-part dies place not_dead not-unkeyed has_key has_key false (λ u. refl) (λ u. refl) (λ u. refl) (λ k q. refl)) ∙ ks) j;
                    held = hs j;
                    alive =
                        (part-other x a e kill alive_of a.alive 0 (alive-at x a e) dies p 0 same
                        (killing-part dies place not_dead not-unkeyed alive_of alive_of 0 (λ u. refl) (λ u. refl) (λ u. refl) (λ k q. refl)) ∙ ls) j;
                    codes2 = a.codes2;
                    scales2 = a.scales2;
                    years = a.years;
                  };
              answer = flag true;
            })

  -- ---- of a whole key

  module _ (key present : ℕ) where
    abbrev pub many : ℕ
    many = held_count a.keys a.keyed x.n key

    -- whether one of its slots must stay
    abbrev stays : Bool
    stays = key_must_stay a.keys a.keyed a.years x.n key present

    remove-outcome : outcome x a (remove key present) e ≡ remarked (state_of x a) (ltb 0 many) (when stays 21) (removed key)
    unfolding step
    remove-outcome = rw (is-held x a e key, key-stays x a e key present)

    pub remove-no : many ≡ 0 → call x a (remove key present) ≡ result_of x a (flag false)
    unfolding remarked
    remove-no t = call-answered x a (remove key present) e (flag false) (remove-outcome ∙ rw (le-ltb 0 many (omega arith)))

    pub remove-barred : 0 < many → stays ≡ true → call x a (remove key present) ≡ result_of x a (refused 21)
    unfolding remarked guarded
    remove-barred l t = call-answered x a (remove key present) e (refused 21) (remove-outcome ∙ rw (lt-ltb 0 many l, t))

    module _ (some : 0 < many) (free : stays ≡ false) where
      accepted : outcome x a (remove key present) e ≡ remarked (state_of x a) true 0 (killing (holds key) position)
      accepted = remove-outcome ∙ rw (lt-ltb 0 many some, free) (ap (remarked (state_of x a) true 0) (λ j m. removed-kills key m j))

      pub remove-few : many ≤ x.live
      remove-few = killed-few (holds key) position (remove key present) accepted (λ u. refl) (λ u. refl) (slot_has a.keys a.keyed key) (λ i l. has-at x a e key i l)

      places : parts_of x a e (killing (holds key) position) position a.held ≡ replaced_where (slot_has a.keys a.keyed key) x.n 0 0 a.held
      places =
          part-other x a e (killing (holds key) position) position a.held 0 (held_at x a e) (holds key) (slot_has a.keys a.keyed key) 0
          (λ i l. has-at x a e key i l) (killing-part (holds key) position (λ u. refl) (λ u. refl) position position 0 (λ u. refl) (λ u. refl) (λ u. refl) (λ k q. refl))

      pub remove-yes : (w : SlotMarks) → w ≡ dead_where (slot_has a.keys a.keyed key) x.n (marks_of a) →
          call x a (remove key present) ≡ result_of (with_live x (x.live - many)) (with_marks a w) (flag true)
      unfolding dead_where
      remove-yes w is =
          killed-call (holds key) position (remove key present) accepted (λ u. refl) (λ u. refl) (slot_has a.keys a.keyed key) (λ i l. has-at x a e key i l) w
          (places ∙ sym (ap (λ (v : SlotMarks). v.held) is))
          (sym (ap (λ (v : SlotMarks). v.keyed) is)) (sym (ap (λ (v : SlotMarks). v.alive) is))

  -- ---- of one slot

  module _ (key slot present : ℕ) where
    abbrev pub here : Bool
    here = ltb slot x.n && slot_has a.keys a.keyed key slot

    at_position : position_of key (get_elem? (state_of x a).slots slot) ≡ cond here (some (get_or a.held slot 0)) none
    at_position =
        elim (dec_lt slot x.n) [
          | yes l ↦ position_in x a e slot l key ∙ rw (lt-ltb slot x.n l)
          | no l ↦ ap (position_of key) (slot-past x a e slot (omega arith)) ∙ rw (le-ltb slot x.n (omega arith))
        ]

    -- what the position decides
    abbrev choice : Option ℕ → Outcome
    choice none = answered (state_of x a) (flag false)
    choice (some gap) =
        remarked (state_of x a) true (when (any_must_stay (holds_at key gap) present (state_of x a).slots) 21)
        (gap_filled key gap (held_by key (live_from 0 (state_of x a).slots) - 1))

    at-choice : (b : Bool) → here ≡ b → outcome x a (remove_at key slot present) e ≡ choice (cond b (some (get_or a.held slot 0)) none)
    unfolding step
    at-choice b t = ap choice (at_position ∙ ap (λ c. cond c (some (get_or a.held slot 0)) none) t)

    pub at-no : here ≡ false → call x a (remove_at key slot present) ≡ result_of x a (flag false)
    at-no t = call-answered x a (remove_at key slot present) e (flag false) (at-choice false t)

    module _ (t : here ≡ true) where
      low : slot < x.n
      low = ltb-true slot x.n (and_left (ltb slot x.n) (slot_has a.keys a.keyed key slot) t)

      has : slot_has a.keys a.keyed key slot ≡ true
      has = and_right (ltb slot x.n) (slot_has a.keys a.keyed key slot) t

      abbrev total : ℕ
      total = held_count a.keys a.keyed x.n key

      -- the key has a last position, and a slot that holds it
      pub at_some : 0 < total
      at_some = count_at (slot_has a.keys a.keyed key) (λ i. i) x.n slot low has

      abbrev pub gap : ℕ
      gap = get_or a.held slot 0

      abbrev pub last : ℕ
      last = held_slot a.keys a.keyed a.held x.n key (total - 1)

      last-low : last < x.n
      last-low = position-found x a e key (total - 1) (omega (arith, at_some))

      pub at_room : (slot < length a.keyed) × (slot < length a.held) × (last < length a.held)
      at_room = (omega (arith, low, (room x a e).keyed), omega (arith, low, (room x a e).held), omega (arith, last-low, (room x a e).held))

      -- the one slot that holds a position
      only-found : (p i : ℕ) → i < x.n → slot_holds a.keys a.keyed a.held key p i ≡ true →
          Only (slot_holds a.keys a.keyed a.held key p) x.n i
      only-found p i l h = record { low = l; passes = h; other = λ k m d. apart k m d (slot_holds a.keys a.keyed a.held key p k) refl }
        where
          apart : (k : ℕ) → k < x.n → k ≢ i → (b : Bool) → slot_holds a.keys a.keyed a.held key p k ≡ b → b ≡ false
          apart k m d true f = absurd (d (sym (only-slot x a e key p k m f) ∙ only-slot x a e key p i l h))
          apart k m d false f = refl

      gap-only : Only (slot_holds a.keys a.keyed a.held key gap) x.n slot
      gap-only = only-found gap slot low (rw (has, eq-eqb gap gap refl))

      last-only : Only (slot_holds a.keys a.keyed a.held key (total - 1)) x.n last
      last-only = only-found (total - 1) last last-low (found-holds x a e key (total - 1) last-low)

      abbrev place : Mark → ℕ
      place = placed key gap (total - 1)

      -- whether the slot must stay
      abbrev kept : Bool
      kept = must_stay present (get_or a.years slot 0)

      at-tested : outcome x a (remove_at key slot present) e ≡
          remarked (state_of x a) true (when kept 21) (gap_filled key gap (held_by key (live_from 0 (state_of x a).slots) - 1))
      at-tested = at-choice true t ∙ rw (only-stays x a e key present gap slot low gap-only.passes)

      pub at-barred : kept ≡ true → call x a (remove_at key slot present) ≡ result_of x a (refused 21)
      unfolding remarked guarded
      at-barred k = call-answered x a (remove_at key slot present) e (refused 21) (at-tested ∙ rw k)

      abbrev gone : ℕ → Bool
      gone = slot_holds a.keys a.keyed a.held key gap

      abbrev moved : ℕ → Bool
      moved = slot_holds a.keys a.keyed a.held key (total - 1)

      one : count gone (below x.n) ≡ 1
      one =
          let some : 0 < bit (ltb gap total) = omega (arith, held-once x a e key gap, count_at gone (λ i. i) x.n slot low gap-only.passes) in
          held-once x a e key gap ∙ ap bit (bit-one (ltb gap total) some)

      -- the positions of the slots after it
      abbrev after : List ℕ
      after = set (set a.held last gap) slot 0

      place_at : (i : ℕ) → i < x.n → get_or after i 0 ≡ position (killing (holds_at key gap) place (mark_at a i))
      place_at i l =
          set_at gone x.n slot gap-only 0 0 (set a.held last gap) (rw (length-set a.held last gap) (room x a e).held) i l
          ∙ ap (cond (gone i) 0) (set_at moved x.n last last-only gap 0 a.held (room x a e).held i l)
          ∙ sym (killing-part (holds_at key gap) place (λ u. refl) (λ u. refl) position place 0 (λ u. refl) (λ u. refl) (λ u. refl) (λ k q. refl) (mark_at a i)
          ∙ rw (holds_at_lem key i l gap, holds_at_lem key i l (total - 1), held_at x a e i l))

      place_rest : (i : ℕ) → x.n ≤ i → i < length a.held → get_or after i 0 ≡ get_or a.held i 0
      place_rest i l m =
          set-later gone x.n slot gap-only 0 0 (set a.held last gap) (rw (length-set a.held last gap) (room x a e).held) i l
          ∙ set-later moved x.n last last-only gap 0 a.held (room x a e).held i l

      places-are : parts_of x a e (killing (holds_at key gap) place) position a.held ≡ after
      places-are =
          sym (over-ext (λ i. position (killing (holds_at key gap) place (mark_at a i))) x.n 0 a.held after (room x a e).held
          (length-set (set a.held last gap) slot 0 ∙ length-set a.held last gap) place_at place_rest)

      module _ (free : kept ≡ false) where
        at-outcome : outcome x a (remove_at key slot present) e ≡ remarked (state_of x a) true 0 (killing (holds_at key gap) place)
        at-outcome =
            at-tested ∙ ap (λ (b : Bool). remarked (state_of x a) true (when b 21) (gap_filled key gap (held_by key (live_from 0 (state_of x a).slots) - 1))) free
            ∙ ap (λ (n : ℕ). remarked (state_of x a) true 0 (gap_filled key gap (n - 1))) (held_by_lem x a e key)
            ∙ ap (remarked (state_of x a) true 0) (λ j m. filled-kills key gap (total - 1) m j)

        pub at-few : 1 ≤ x.live
        at-few =
            omega (arith, one, killed-few (holds_at key gap) place (remove_at key slot present) at-outcome (λ u. refl) (λ u. refl) gone (λ i l. holds_at_lem key i l gap))

        pub at-yes : (w : SlotMarks) → w ≡ dead_at slot (placed_at last gap (marks_of a)) →
            call x a (remove_at key slot present) ≡ result_of (with_live x (x.live - 1)) (with_marks a w) (flag true)
        unfolding dead_at placed_at
        at-yes w is =
            killed-call (holds_at key gap) place (remove_at key slot present) at-outcome (λ u. refl) (λ u. refl) gone (λ i l. holds_at_lem key i l gap) w
            (places-are ∙ sym (ap (λ (v : SlotMarks). v.held) is))
            (sym (ap (λ (v : SlotMarks). v.keyed) is ∙ set-only gone x.n slot gap-only false false a.keyed (room x a e).keyed))
            (sym (ap (λ (v : SlotMarks). v.alive) is ∙ set-only gone x.n slot gap-only 0 0 a.alive (room x a e).alive))
            ∙ ap (λ (n : ℕ). result_of (with_live x (x.live - n)) (with_marks a w) (flag true)) one
