-- A full search as a call: refused by its tests, or else the list of the live slots' hits, shown by slot or by key.
use mathlib.Core.Path.{◌≡◌, refl, sym, ap, ◌∙◌}
use mathlib.Core.Bool.{Bool, true, false, not}
use mathlib.Core.List.{List, [], ◌∷◌, map}
use Prim.Native.Nat.{ℕ, zero, suc, ◌≤◌, min, max}
use native.Mathlib.Omega.{arith}
use lib.ListN.{length, length-map}
use lib.Dec.{ltb}
use lib.Ieee.{Float, is_nan}
use borrow.Author.Tests.{ltb-false}
use Rattle.lists.specs.Keep.{keep, any}
use Rattle.lists.proofs.Laws.{length-tab}
use Rattle.lists.proofs.Keep.{length-keep, count-length}
use Rattle.choose.proofs.Choice.{choose-length}
use Rattle.score.specs.Order.{order_number}
use Rattle.encode.specs.Coded.{fault}
use Rattle.index.specs.declared.Index.{Index}
use Rattle.index.specs.Arrays.{Arrays}
use Rattle.index.specs.State.{header_of, slot_at, state_of}
use Rattle.index.specs.Fit.{fit}
use Rattle.index.specs.Step.{Query, Op, Answer, refused, first_of, when, unless, Cell, live_from, Hit, short_result, searched, answered, step}
use Rattle.index.specs.Call.{call}
use Rattle.index.specs.Answers.{result_of}
use Rattle.index.proofs.Kept.{first-refused}
use Rattle.index.proofs.Calls.{call-misfit, call-answered}
use Rattle.fit.proofs.Meaning.{meaning}
use Rattle.fit.proofs.Rooms.{enough}
use Rattle.lists.specs.Lists.{below}
use Rattle.held.proofs.Live.{cell_at}
use Rattle.marks.specs.Live.{live_at}
use Rattle.hits.specs.Hits.{scored_slots, chosen}
use Rattle.asking.specs.Faults.{places_fault, search_fault}
use Rattle.asking.proofs.Cells.{scores, cells, hit, hits-chosen}
use Rattle.asking.proofs.Live.{live-cells, live-length}
use Rattle.asking.proofs.Answers.{first-nested, first-last, query-refusal}

-- the live slots, number and score
abbrev pub live_entered : Index → Arrays → Query → List (ℕ × Float)
live_entered x a q = scored_slots (scores (header_of x) a q) a.alive x.n

-- a live slot's score is NaN
abbrev pub live_nan : Index → Arrays → Query → Bool
live_nan x a q = any (λ e. is_nan e.1) (live_entered x a q)

-- the hits among the live slots
abbrev pub live_chosen : Index → Arrays → Query → (k : ℕ) → List (ℕ × Float)
live_chosen x a q k = chosen (scores (header_of x) a q) a.alive x.n k

-- the answer after all tests, n being their number
abbrev pub shown_by : Index → Arrays → Query → (k : ℕ) → (List Hit → Answer) → (n : ℕ) → Answer
shown_by x a q k show n = unless n (show (map (hit (header_of x) a) (live_chosen x a q k)))

module _ (x : Index) (a : Arrays) (q : Query) (k places : ℕ) where
  -- the slots that are marked as live
  abbrev numbers : List ℕ
  numbers = keep (live_at a.alive) (below x.n)

  abbrev query_number : ℕ
  query_number = fault (header_of x) q.vector

  module _ (e : fit x a ≡ true) where
    many : length (cells (header_of x) a a.alive x.n) ≡ x.live
    many = sym (ap length (live-cells x a)) ∙ live-length x a e

    many-numbers : length numbers ≡ x.live
    many-numbers = sym (length-map numbers (cell_at (slot_at (header_of x) a) x.n)) ∙ many

    -- the step's tests are those of the program, then 12
    tests : (w : ℕ) → first_of (short_result k x.live places ∷ first_of (query_number ∷ w ∷ []) ∷ []) ≡ first_of (search_fault x a q k places ∷ w ∷ [])
    unfolding search_fault places_fault first_of
    tests w =
        let s = short_result k x.live places in
        first-last (s ∷ []) (query_number ∷ w ∷ [])
        ∙ sym (first-nested (places_fault x a k places ∷ query_number ∷ []) (w ∷ [])
        ∙ first-nested (when (not (fit x a)) 13 ∷ s ∷ []) (query_number ∷ w ∷ [])
        ∙ (λ j. first_of (when (not (e j)) 13 ∷ s ∷ query_number ∷ w ∷ [])))

    searched-tests : (show : List Hit → Answer) →
        searched (header_of x) (live_from 0 (state_of x a).slots) q k places show ≡
        shown_by x a q k show (first_of (search_fault x a q k places ∷ when (live_nan x a q) 12 ∷ []))
    unfolding searched
    searched-tests show =
        let h = header_of x in
        let w = when (live_nan x a q) 12 in
        ap (λ (cs : List Cell). searched h cs q k places show) (live-cells x a)
        ∙ (λ j. unless (first_of (short_result k (many j) places ∷ query-refusal h a q a.alive x.n j ∷ [])) (show (hits-chosen h a q a.alive x.n k j)))
        ∙ ap (shown_by x a q k show) (tests w)

    -- as many hits as the result needs places
    pub chosen-length : length (live_chosen x a q k) ≡ min (max k 1) x.live
    unfolding scored_slots
    chosen-length =
        choose-length (λ (y : ℕ × Float). order_number y.1) k (live_entered x a q)
        ∙ ap (min (max k 1)) (length-map numbers (λ (i : ℕ). (i, scores (header_of x) a q i)) ∙ many-numbers)

  -- no refusal before any score
  module _ (none : search_fault x a q k places ≡ 0) where
    parts : (b : Bool) → fit x a ≡ b → (s f : ℕ) → first_of (first_of (when (not b) 13 ∷ s ∷ []) ∷ f ∷ []) ≡ 0 → (fit x a ≡ true) × (s ≡ 0) × (f ≡ 0)
    unfolding first_of
    parts true e zero zero g = (e, refl, refl)
    parts true e zero (suc f) g = absurd (let z : suc f ≡ 0 = g in omega arith)
    parts true e (suc s) f g = absurd (let z : suc s ≡ 0 = g in omega arith)
    parts false e s f g = absurd (let z : ◌≡◌ {A = ℕ} 13 0 = g in omega arith)

    passed : (fit x a ≡ true) × (short_result k x.live places ≡ 0) × (query_number ≡ 0)
    unfolding search_fault places_fault
    passed = parts (fit x a) refl _ _ none

    pub searched-fits : fit x a ≡ true
    searched-fits = passed.0

    pub searched-query : fault (header_of x) q.vector ≡ 0
    searched-query = passed.2

    -- the hits have their places, in the result and in an array for all slots
    pub chosen-places : length (live_chosen x a q k) ≤ places
    chosen-places = go (ltb places (min (max k 1) x.live)) refl passed.1
      where
        go : (b : Bool) → ltb places (min (max k 1) x.live) ≡ b → when b 13 ≡ 0 → length (live_chosen x a q k) ≤ places
        go true l g = absurd (let z : ◌≡◌ {A = ℕ} 13 0 = g in omega arith)
        go false l g = omega (arith, chosen-length searched-fits, ltb-false places (min (max k 1) x.live) l)

    pub chosen-few : length (live_chosen x a q k) ≤ 65536
    chosen-few =
        omega (
          arith,
          chosen-length searched-fits,
          many-numbers searched-fits,
          length-keep (live_at a.alive) (below x.n),
          count-length (live_at a.alive) (below x.n),
          length-tab (λ i. i) x.n,
          (enough (header_of x) a x.n ((meaning x a).yes searched-fits).room).few,
        )

  -- ---- the call, of a step that shows the hits in its way

  module _ (op : Op) (show : List Hit → Answer)
      (is : (room : ℕ) → step room (state_of x a) op ≡ answered (state_of x a) (searched (header_of x) (live_from 0 (state_of x a).slots) q k places show)) where
    by_tests : fit x a ≡ true → (r : Answer) → shown_by x a q k show (first_of (search_fault x a q k places ∷ when (live_nan x a q) 12 ∷ [])) ≡ r →
        result_of x a r ≡ call x a op
    by_tests e r f = sym (call-answered x a op e r (is _ ∙ ap (answered (state_of x a)) (searched-tests e show ∙ f)))

    pub search-refused : (n : ℕ) → n ≡ search_fault x a q k places → (n ≡ 0 → ⊥) → result_of x a (refused n) ≡ call x a op
    unfolding search_fault places_fault first_of
    search-refused n f some = go (fit x a) refl
      where
        go : (b : Bool) → fit x a ≡ b → result_of x a (refused n) ≡ call x a op
        go true e =
            let w = when (live_nan x a q) 12 in
            by_tests e (refused n) (ap (λ (m : ℕ). shown_by x a q k show (first_of (m ∷ w ∷ []))) (sym f) ∙ first-refused n w _ some)
        go false e = ap (λ (m : ℕ). result_of x a (refused m)) (f ∙ rw e refl) ∙ sym (call-misfit x a op e)

    pub search-listed : search_fault x a q k places ≡ 0 → result_of x a (shown_by x a q k show (when (live_nan x a q) 12)) ≡ call x a op
    unfolding first_of
    search-listed none =
        by_tests (searched-fits none) _
        (ap (λ (m : ℕ). shown_by x a q k show (first_of (m ∷ when (live_nan x a q) 12 ∷ []))) none ∙ go (live_nan x a q))
      where
        go : (b : Bool) → shown_by x a q k show (first_of (0 ∷ when b 12 ∷ [])) ≡ shown_by x a q k show (when b 12)
        go true = refl
        go false = refl
