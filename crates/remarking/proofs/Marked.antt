-- A change of every slot's mark, seen in the record and the arrays: the codes stay, and each array of marks gets its part of the changed marks.
use mathlib.Core.Path.{◌≡◌, refl, sym, ap, ap₂, ◌∙◌}
use mathlib.Core.Bool.{Bool, true, false, cond}
use mathlib.Core.List.{List, [], ◌∷◌, map, map-map}
use mathlib.Core.Option.{none, some}
use Prim.Native.Nat.{ℕ, ◌+◌, ◌-◌, ◌≤◌, ◌<◌}
use native.Mathlib.Omega.{arith}
use lib.ListN.{length, get_or, length-map}
use Rattle.lists.specs.Lists.{tab, over}
use Rattle.lists.specs.Keep.{bit, count}
use Rattle.lists.proofs.Laws.{length-tab, get_or-tab, tab-ext, length_over}
use Rattle.lists.proofs.Keep.{count_map, count-share}
use Rattle.lists.proofs.Front.{map-tab, get_or-over-map, over-own, over-ext, get_d_front, get_or-rest}
use Rattle.codes.specs.Stage.{Stage}
use Rattle.index.specs.declared.Index.{Index}
use Rattle.index.specs.Arrays.{Arrays, unmarked}
use Rattle.index.specs.State.{Mark, Slot, is_live, live, header_of, mark_of, slot_at, state_of, record_of, alive_of, has_key, key_word, position, seconds, scales_of, blocks_of, overlay, with_counts}
use Rattle.index.specs.Fit.{fit}
use Rattle.index.specs.Step.{Op, flag, holds, on_mark, guarded, remarked}
use Rattle.index.specs.Call.{laid_over, call}
use Rattle.index.specs.Answers.{result_of}
use Rattle.slot_keys.specs.Has.{slot_has}
use Rattle.held.proofs.Value.{mark-holds}
use Rattle.remarking.specs.Replaced.{replaced_where}
use Rattle.remarking.specs.Live.{with_live}
use Rattle.index.proofs.Fits.{fitting, overlay-self, record-self, none-past}
use Rattle.index.proofs.Overlay.{Roomy, roomy}
use Rattle.index.proofs.Calls.{outcome, call_fits}
use Rattle.marks.specs.Live.{no_marks}

-- the mark that the arrays hold of a slot
abbrev pub mark_at : Arrays → ℕ → Mark
mark_at a i = mark_of (get_or a.alive i 0) (get_or a.keyed i false) (get_or a.keys i 0) (get_or a.held i 0)

seconds-same : (f : Mark → Mark) (ss : List Slot) → seconds (map (on_mark f) ss) ≡ seconds ss
unfolding seconds
seconds-same f [] = refl
seconds-same f (s ∷ ss) = ap (λ (gs : List Stage). elim s.code.second [ none ↦ gs | some g ↦ g ∷ gs ]) (seconds-same f ss)

module _ (x : Index) (a : Arrays) (e : fit x a ≡ true) where
  pub room : Roomy x.n (header_of x) a
  room = roomy x.n (header_of x) a (fitting x a e).space

  abbrev slots : List Slot
  slots = tab (slot_at (header_of x) a) x.n

  own : overlay (unmarked a) slots ≡ a
  unfolding state_of
  own = overlay-self x a e

  -- an array of marks has the parts of its marks
  part_at : {B : Type 0} (g : Mark → B) (xs under : List B) (d : B) → over (map (λ s. g s.mark) slots) under ≡ xs → (i : ℕ) → i < x.n →
      g (mark_at a i) ≡ get_or xs i d
  unfolding slot_at
  part_at g xs under d same i l =
      sym (ap (λ (s : Slot). g s.mark) (get_or-tab (slot_at (header_of x) a) x.n i (slot_at (header_of x) a 0) l))
      ∙ sym (get_or-over-map (λ (s : Slot). g s.mark) slots under i (slot_at (header_of x) a 0) d (rw (length-tab (slot_at (header_of x) a) x.n) l))
      ∙ ap (λ ys. get_or ys i d) same

  module _ (i : ℕ) (l : i < x.n) where
    pub word_at : key_word (mark_at a i) ≡ get_or a.keys i 0
    unfolding overlay
    word_at = part_at key_word a.keys a.keys 0 (ap (λ (b : Arrays). b.keys) own) i l

    pub keyed-at : has_key (mark_at a i) ≡ get_or a.keyed i false
    unfolding overlay
    keyed-at = part_at has_key a.keyed a.keyed false (ap (λ (b : Arrays). b.keyed) own) i l

    pub held_at : position (mark_at a i) ≡ get_or a.held i 0
    unfolding overlay
    held_at = part_at position a.held a.held 0 (ap (λ (b : Arrays). b.held) own) i l

    pub alive-at : alive_of (mark_at a i) ≡ get_or a.alive i 0
    unfolding overlay
    alive-at = part_at alive_of a.alive (no_marks a.alive) 0 (ap (λ (b : Arrays). b.alive) own) i l

  -- ---- after a change f of the marks

  module _ (f : Mark → Mark) where
    abbrev pub parts_of : {B : Type 0} → (Mark → B) → List B → List B
    parts_of g xs = over (tab (λ i. g (f (mark_at a i))) x.n) xs

    -- the arrays after it
    abbrev pub after_marks : Arrays
    after_marks =
        record {
          codes = a.codes;
          scales = a.scales;
          keys = parts_of key_word a.keys;
          keyed = parts_of has_key a.keyed;
          held = parts_of position a.held;
          alive = parts_of alive_of a.alive;
          codes2 = a.codes2;
          scales2 = a.scales2;
          years = a.years;
        }

    part-after : {B : Type 0} (g : Mark → B) (xs : List B) → over (map (λ s. g s.mark) (map (on_mark f) slots)) xs ≡ parts_of g xs
    unfolding slot_at
    part-after g xs =
        ap (λ ys. over ys xs) (map-map (λ (s : Slot). g s.mark) (on_mark f) slots ∙ map-tab (λ (s : Slot). g (f s.mark)) (slot_at (header_of x) a) x.n)

    firsts_same : map (λ (s : Slot). s.code.first) (map (on_mark f) slots) ≡ map (λ (s : Slot). s.code.first) slots
    firsts_same = map-map (λ (s : Slot). s.code.first) (on_mark f) slots

    -- no mark is set past the slots in use
    marks-after : over (tab (λ i. alive_of (f (mark_at a i))) x.n) (no_marks a.alive) ≡ parts_of alive_of a.alive
    marks-after =
        let g : ℕ → ℕ = λ i. alive_of (f (mark_at a i)) in
        let many : length (no_marks a.alive) ≡ length a.alive = length-tab (λ i. 0) (length a.alive) in
        let few : length (tab g x.n) ≡ x.n = length-tab g x.n in
        sym (over-ext g x.n 0 (no_marks a.alive) (over (tab g x.n) a.alive) (omega (arith, room.alive, many))
        (length_over (tab g x.n) a.alive (omega (arith, room.alive, few)) ∙ sym many)
        (λ i l. get_d_front (tab g x.n) a.alive i 0 (omega (arith, l, few)) ∙ get_or-tab g x.n i 0 l)
        (λ i l k. get_or-rest (tab g x.n) a.alive i 0 (omega (arith, l, few)) ∙ none-past x.n a.alive (fitting x a e).clear i l
        ∙ sym (get_or-tab (λ j. 0) (length a.alive) i 0 (omega (arith, k, many)))))

    arrays-after : overlay (unmarked a) (map (on_mark f) slots) ≡ after_marks
    unfolding overlay
    arrays-after =
        λ j. record {
          codes = (ap (λ gs. over (blocks_of gs) a.codes) firsts_same ∙ ap (λ (b : Arrays). b.codes) own) j;
          scales = (ap (λ gs. over (scales_of gs) a.scales) firsts_same ∙ ap (λ (b : Arrays). b.scales) own) j;
          keys = part-after key_word a.keys j;
          keyed = part-after has_key a.keyed j;
          held = part-after position a.held j;
          alive = (part-after alive_of (no_marks a.alive) ∙ marks-after) j;
          codes2 = (ap (λ gs. over (blocks_of gs) a.codes2) (seconds-same f slots) ∙ ap (λ (b : Arrays). b.codes2) own) j;
          scales2 = (ap (λ gs. over (scales_of gs) a.scales2) (seconds-same f slots) ∙ ap (λ (b : Arrays). b.scales2) own) j;
          years = (ap (λ ys. over ys a.years) (map-map (λ (s : Slot). s.year) (on_mark f) slots) ∙ ap (λ (b : Arrays). b.years) own) j;
        }

    -- the live slots after it, where it kills those that pass a test
    module _ (dies : Mark → Bool) (h : (m : Mark) → bit (is_live m) ≡ bit (is_live (f m)) + bit (dies m)) where
      live-after : x.live ≡ count live (map (on_mark f) slots) + count dies (tab (mark_at a) x.n)
      unfolding record_of state_of slot_at
      live-after =
          sym (ap (λ (y : Index). y.live) (record-self x a e))
          ∙ count-share live (λ s. live (on_mark f s)) (λ s. dies s.mark) slots (λ s. h s.mark)
          ∙ omega (
            arith,
            count_map (on_mark f) live slots,
            count_map (λ (s : Slot). s.mark) dies slots,
            ap (count dies) (map-tab (λ (s : Slot). s.mark) (slot_at (header_of x) a) x.n),
          )

      pub live-few : count dies (tab (mark_at a) x.n) ≤ x.live
      live-few = omega (arith, live-after)

      live-left : count live (map (on_mark f) slots) ≡ x.live - count dies (tab (mark_at a) x.n)
      live-left = omega (arith, live-after)

    -- the call, where it is accepted
    pub marked-call : (op : Op) (dies : Mark → Bool) → outcome x a op e ≡ remarked (state_of x a) true 0 f →
        ((m : Mark) → bit (is_live m) ≡ bit (is_live (f m)) + bit (dies m)) →
        call x a op ≡ result_of (with_live x (x.live - count dies (tab (mark_at a) x.n))) after_marks (flag true)
    unfolding remarked guarded state_of record_of with_live
    marked-call op dies o h =
        call_fits x a op e ∙ ap (laid_over a) o
        ∙ (λ j. record {
          index = with_counts x ((length-map slots (on_mark f) ∙ length-tab (slot_at (header_of x) a) x.n) j) (live-left dies h j) x.cascade;
          arrays = arrays-after j;
          answer = flag true;
        })

  -- ---- the parts after it, array by array

  -- a slot has a key by its mark as by the arrays
  pub has-at : (j i : ℕ) → i < x.n → holds j (mark_at a i) ≡ slot_has a.keys a.keyed j i
  unfolding slot_at
  has-at j i l = mark-holds x a e i l j

  module _ (f : Mark → Mark) {B : Type 0} (g : Mark → B) (xs : List B) (d : B) (at : (i : ℕ) → i < x.n → g (mark_at a i) ≡ get_or xs i d) where
    pub part_same : x.n ≤ length xs → ((m : Mark) → g (f m) ≡ g m) → parts_of f g xs ≡ xs
    part_same l same = over-own (λ i. g (f (mark_at a i))) x.n d xs l (λ i k. same (mark_at a i) ∙ at i k)

    pub part-other : (test : Mark → Bool) (p : ℕ → Bool) (v : B) → ((i : ℕ) → i < x.n → test (mark_at a i) ≡ p i) →
        ((m : Mark) → g (f m) ≡ cond (test m) v (g m)) → parts_of f g xs ≡ replaced_where p x.n v d xs
    unfolding replaced_where
    part-other test p v same other =
        ap (λ ys. over ys xs)
        (tab-ext (λ i. g (f (mark_at a i))) (λ i. cond (p i) v (get_or xs i d)) x.n (λ i l. other (mark_at a i) ∙ ap₂ (λ b z. cond b v z) (same i l) (at i l)))
