-- The slot that holds position 0 of a key, written anew, is what the step of the value says.
use mathlib.Core.Path.{◌≡◌, refl, sym, ap, subst, ◌∙◌}
use mathlib.Core.Bool.{Bool, true, false, cond}
use mathlib.Core.List.{List, [], ◌∷◌, map}
use mathlib.Core.Option.{Option, none, some}
use Rattle.std.specs.Prelude.{Some}
use Prim.Native.Nat.{ℕ, zero, suc, ◌+◌, ◌*◌, ◌<◌}
use native.Mathlib.Omega.{arith}
use borrow.Author.Tests.{lt-leb, lt-ltb, eqb-true, eqb-false, eq-eqb, ne_eqb}
use lib.Dec.{T, eqb}
use lib.ListN.{length, get_or, set, length-map}
use Rattle.std.proofs.lemmas.List.{map-set}
use Rattle.lists.specs.Lists.{tab, over, splice}
use Rattle.lists.specs.Keep.{Each, count}
use Rattle.lists.proofs.Laws.{length-tab, tab-ext}
use Rattle.lists.proofs.Entries.{set-tab}
use Rattle.lists.proofs.Tests as Tests
use Rattle.lists.proofs.Keep.{each_weaken, count_map}
use Rattle.lists.proofs.Front.{map-tab, each_map}
use Rattle.codes.specs.Stage.{Stage}
use Rattle.encode.specs.declared.Header.{Header}
use Rattle.encode.specs.Header.{block_size}
use Rattle.encode.specs.Coded.{fault, spare_of}
use Rattle.index.specs.declared.Index.{Index}
use Rattle.index.specs.Arrays.{Arrays, unmarked}
use Rattle.index.specs.State.{Mark, dead, unkeyed, keyed, Slot, live, header_of, capacity, slot_at, state_of, record_of, alive_of, has_key, key_word, position, seconds, scales_of, blocks_of, overlay, put_slot, new_slot, with_counts}
use Rattle.index.specs.Fit.{fit}
use Rattle.index.specs.Sound.{Shaped, AllShaped}
use Rattle.index.specs.Codec.{encoded}
use Rattle.index.specs.Step.{Item, first_of, when, slot, holds_at, overwritten, must_stay, any_must_stay, Outcome, with_slots, guarded}
use Rattle.index.specs.Call.{Result, laid_over}
use Rattle.index.specs.Answers.{result_of}
use Rattle.index.proofs.Encoded.{encoded-shaped}
use Rattle.index.proofs.Overlay.{plain-none, residual-some, plain-seconds, residual-seconds, second_of}
use Rattle.index.proofs.Fits.{fitting, overlay-self, fit-sound}
use Rattle.place.specs.Place.{recoded, after_add, refusal}
use Rattle.place.specs.declared.Adding.{Adding}
use Rattle.place.specs.Adding.{spot}
use Rattle.place.proofs.Calls.{zero-test, unless_refused, wrote}
use Rattle.place.proofs.Blocks.{each_set, over-set, blocks-set, scales-set}
use Rattle.place.proofs.Append.{live-count, step-refused}
use Rattle.marks.specs.Live.{no_marks}

-- a mark that holds a position of a key
marked : (j p : ℕ) (m : Mark) → holds_at j p m ≡ true → m ≡ keyed j p
marked j p (dead u) e = absurd (subst T (sym e) tt)
marked j p (unkeyed u) e = absurd (subst T (sym e) tt)
marked j p (keyed k q) e = let b = Tests.both (eqb k j) (eqb q p) e in λ t. keyed (eqb-true k j b.0 t) (eqb-true q p b.1 t)

module _ (x : Index) (a : Arrays) (i : ℕ) (v : Item) (y : ℕ) where
  abbrev h : Header
  h = header_of x

  abbrev old : ℕ → Slot
  old m = slot_at h a m

  abbrev slots : List Slot
  slots = tab old x.n

  -- the slot anew, and its stages
  abbrev new : Slot
  new = new_slot (old i).mark (encoded h (spare_of h (old i).code) v) y

  own : Shaped h new.code
  own = encoded-shaped h (spare_of h (old i).code) v

  module _ (e : fit x a ≡ true) (l : i < x.n) where
    many : length slots ≡ x.n
    many = length-tab old x.n

    shape : AllShaped h slots
    unfolding state_of
    shape = (fit-sound x a e).shape

    self : overlay (unmarked a) slots ≡ a
    unfolding state_of
    self = overlay-self x a e

    within : i < length slots
    within = rw many l

    -- ---- codes and scales

    abbrev firsts : List Stage
    firsts = map (λ (s : Slot). s.code.first) slots

    firsts-sized : Each (λ g. length g.block ≡ block_size h) firsts
    firsts-sized = each_map (λ g. length g.block ≡ block_size h) (λ s. s.code.first) slots (each_weaken (λ s. Shaped h s.code) (λ s. length s.code.first.block ≡ block_size h) slots (λ s c. c.first) shape)

    in-firsts : i < length firsts
    in-firsts = rw (length-map slots (λ (s : Slot). s.code.first)) within

    codes-are : over (blocks_of (map (λ (s : Slot). s.code.first) (set slots i new))) a.codes ≡ splice (i * block_size h) new.code.first.block a.codes
    unfolding overlay
    codes-are =
        ap (λ gs. over (blocks_of gs) a.codes) (map-set (λ (s : Slot). s.code.first) slots i new)
        ∙ blocks-set h firsts new.code.first i in-firsts a.codes firsts-sized own.first ∙ ap (λ (b : Arrays). splice (i * block_size h) new.code.first.block b.codes) self

    scales-are : over (scales_of (map (λ (s : Slot). s.code.first) (set slots i new))) a.scales ≡ set a.scales i new.code.first.scale
    unfolding overlay
    scales-are =
        ap (λ gs. over (scales_of gs) a.scales) (map-set (λ (s : Slot). s.code.first) slots i new)
        ∙ scales-set h firsts new.code.first i in-firsts a.scales ∙ ap (λ (b : Arrays). set b.scales i new.code.first.scale) self

    -- ---- those of the second stage

    shape-new : AllShaped h (set slots i new)
    shape-new = each_set (λ s. Shaped h s.code) slots i new shape own

    abbrev block_if : Option Stage → List ℕ
    block_if o = elim o [ none ↦ a.codes2 | some g ↦ splice (i * block_size h) g.block a.codes2 ]

    abbrev ScaleIf : Option Stage → List ℕ
    ScaleIf o = elim o [ none ↦ a.scales2 | some g ↦ set a.scales2 i g.scale ]

    same-seconds : h.residual ≡ false → seconds (set slots i new) ≡ seconds slots
    same-seconds f = plain-seconds h f (set slots i new) shape-new ∙ sym (plain-seconds h f slots shape)

    module _ (t : h.residual ≡ true) where
      abbrev both : List Stage
      both = map second_of slots

      were : seconds slots ≡ both
      were = residual-seconds h t slots shape

      are : seconds (set slots i new) ≡ set both i (second_of new)
      are = residual-seconds h t (set slots i new) shape-new ∙ map-set second_of slots i new

      is : some (second_of new) ≡ new.code.second
      is = sym (residual-some h t new own).0

      in_both : i < length both
      in_both = rw (length-map slots second_of) within

      both-sized : Each (λ g. length g.block ≡ block_size h) both
      both-sized = each_map (λ g. length g.block ≡ block_size h) second_of slots (each_weaken (λ s. Shaped h s.code) (λ s. length (second_of s).block ≡ block_size h) slots (λ s c. (residual-some h t s c).1) shape)

    codes2-are : (b : Bool) → h.residual ≡ b → over (blocks_of (seconds (set slots i new))) a.codes2 ≡ block_if new.code.second
    unfolding overlay
    codes2-are true t =
        ap (λ gs. over (blocks_of gs) a.codes2) (are t) ∙ blocks-set h (both t) (second_of new) i (in_both t) a.codes2 (both-sized t) (residual-some h t new own).1
        ∙ ap (λ gs. splice (i * block_size h) (second_of new).block (over (blocks_of gs) a.codes2)) (sym (were t))
        ∙ ap (λ (b : Arrays). splice (i * block_size h) (second_of new).block b.codes2) self ∙ ap block_if (is t)
    codes2-are false f = ap (λ gs. over (blocks_of gs) a.codes2) (same-seconds f) ∙ ap (λ (b : Arrays). b.codes2) self ∙ sym (ap block_if (plain-none h f new own))

    scales2-are : (b : Bool) → h.residual ≡ b → over (scales_of (seconds (set slots i new))) a.scales2 ≡ ScaleIf new.code.second
    unfolding overlay
    scales2-are true t =
        ap (λ gs. over (scales_of gs) a.scales2) (are t) ∙ scales-set h (both t) (second_of new) i (in_both t) a.scales2
        ∙ ap (λ gs. set (over (scales_of gs) a.scales2) i (second_of new).scale) (sym (were t))
        ∙ ap (λ (b : Arrays). set b.scales2 i (second_of new).scale) self ∙ ap ScaleIf (is t)
    scales2-are false f = ap (λ gs. over (scales_of gs) a.scales2) (same-seconds f) ∙ ap (λ (b : Arrays). b.scales2) self ∙ sym (ap ScaleIf (plain-none h f new own))

    -- ---- the slots, where slot i alone holds position 0 of key j

    module _ (j : ℕ) (mine : holds_at j 0 (old i).mark ≡ true) (others : (m : ℕ) → m < x.n → (m ≡ i → ⊥) → holds_at j 0 (old m).mark ≡ false) where
      abbrev change : Slot → Slot
      change s = overwritten h j v y s

      -- with the answer to whether it holds that position
      abbrev changed_if : Slot → Bool → Slot
      changed_if s b = new_slot s.mark (cond b (encoded h (spare_of h s.code) v) s.code) (cond b y s.year)

      abbrev after : ℕ → Slot
      after m = cond (eqb m i) new (old m)

      change-at : (m : ℕ) → m < x.n → change (old m) ≡ after m
      change-at m k = go (eqb m i) refl
        where
          go : (b : Bool) → eqb m i ≡ b → change (old m) ≡ cond b new (old m)
          go true q = ap (λ (n : ℕ). change (old n)) (eqb-true m i q) ∙ ap (changed_if (old i)) mine
          go false q = ap (changed_if (old m)) (others m k (eqb-false m i q))

      changed : map change slots ≡ set slots i new
      changed =
          map-tab change old x.n ∙ tab-ext (λ m. change (old m)) after x.n change-at
          ∙ sym (set-tab old after x.n i new l (rw (eq-eqb i i refl)) (λ m k. rw (ne_eqb m i k)))

      -- one of the arrays of marks, or that of years
      marks-are : {B : Type 0} (g : Slot → B) (under xs : List B) → over (map g slots) under ≡ xs → over (map g (set slots i new)) under ≡ set xs i (g new)
      marks-are g under xs q =
          ap (λ zs. over zs under) (map-set g slots i new) ∙ over-set (map g slots) under i (g new) (rw (length-map slots g) within) ∙ ap (λ zs. set zs i (g new)) q

      arrays-are : overlay (unmarked a) (set slots i new) ≡ put_slot h a i new
      unfolding overlay put_slot
      arrays-are =
          λ t. record {
            codes = codes-are t;
            scales = scales-are t;
            keys = marks-are (λ s. key_word s.mark) a.keys a.keys (ap (λ (b : Arrays). b.keys) self) t;
            keyed = marks-are (λ s. has_key s.mark) a.keyed a.keyed (ap (λ (b : Arrays). b.keyed) self) t;
            held = marks-are (λ s. position s.mark) a.held a.held (ap (λ (b : Arrays). b.held) self) t;
            alive = marks-are (λ s. alive_of s.mark) (no_marks a.alive) a.alive (ap (λ (b : Arrays). b.alive) self) t;
            codes2 = codes2-are h.residual refl t;
            scales2 = scales2-are h.residual refl t;
            years = marks-are (λ s. s.year) a.years a.years (ap (λ (b : Arrays). b.years) self) t;
          }

      -- its mark stays
      abbrev done : Result
      done = wrote x a (spot i (Some (j, 0))) false v y

      placed : overlay (unmarked a) (map change slots) ≡ done.arrays
      unfolding recoded
      placed = ap (overlay (unmarked a)) changed ∙ arrays-are ∙ ap (λ (m : Mark). put_slot h a i (new_slot m new.code y)) (marked j 0 (old i).mark mine)

      record_is : record_of (with_slots (state_of x a) false (map change slots)) ≡ after_add x false
      unfolding record_of state_of
      record_is =
          let n : length (map change slots) ≡ x.n + 0 = omega (arith, length-map slots change, many) in
          let lives : count live (map change slots) ≡ x.live + 0 = omega (arith, count_map change live slots, live-count x a e) in
          λ t. with_counts x (n t) (lives t) false

      abbrev changes : Outcome
      changes = record { state = with_slots (state_of x a) false (map change slots); answer = slot i }

      -- 8 does not come for a slot in use, and 21 comes by the year of this one
      module _ (present : ℕ) (stays : any_must_stay (holds_at j 0) present (state_of x a).slots ≡ must_stay present (get_or a.years i 0)) where
        abbrev tests : ℕ
        tests = first_of (fault h v.vector ∷ when (any_must_stay (holds_at j 0) present (state_of x a).slots) 21 ∷ [])

        refusal_is : refusal x a (Adding.Keyed j present) i v ≡ tests
        unfolding refusal first_of
        refusal_is =
            rw (e, lt-leb (capacity h a) i (omega (arith, l, (fitting x a e).space)), lt-ltb i x.n l, stays)
            (zero-test (fault h v.vector ∷ []) (when (must_stay present (get_or a.years i 0)) 21 ∷ []))

        outcome : (n : ℕ) → unless_refused x a n done ≡ laid_over a (guarded (state_of x a) n changes)
        unfolding guarded
        outcome zero = λ t. result_of (sym record_is t) (sym placed t) (slot i)
        outcome (suc n) = step-refused x a e n changes

        pub overwrite-fits : unless_refused x a (refusal x a (Adding.Keyed j present) i v) done ≡ laid_over a (guarded (state_of x a) tests changes)
        overwrite-fits = ap (λ (n : ℕ). unless_refused x a n done) refusal_is ∙ outcome tests
