-- The call `search_cascade`: refused by its tests, or else the list of the candidates' hits.
use mathlib.Core.Path.{◌≡◌, refl, sym, ap, ◌∙◌}
use mathlib.Core.Bool.{Bool, true, false, not, cond}
use mathlib.Core.List.{List, [], ◌∷◌, map}
use Prim.Native.Nat.{ℕ, zero, suc, ◌≤◌, ◌<◌, min, max}
use native.Mathlib.Omega.{arith}
use lib.Dec.{ltb, eqb}
use lib.ListN.{length, length-map}
use lib.Ieee.{Float, is_nan}
use borrow.Author.Tests.{le-leb, ltb-false, eqb-true, eq-eqb}
use Rattle.lists.specs.Lists.{over, below}
use Rattle.lists.specs.Keep.{keep, any}
use Rattle.marks.specs.Live.{live_at}
use Rattle.choose.specs.Choose.{choose}
use Rattle.choose.proofs.Choice.{choose-length}
use Rattle.score.specs.Order.{order_number}
use Rattle.lists.proofs.Tests.{both}
use Rattle.encode.specs.Coded.{fault}
use Rattle.index.specs.declared.Index.{Index}
use Rattle.index.specs.Verdict.{granted, turned_down}
use Rattle.index.specs.Arrays.{Arrays}
use Rattle.index.specs.State.{header_of, slot_at, state_of}
use Rattle.index.specs.Fit.{fit}
use Rattle.index.specs.Step.{Hit, Query, Answer, refused, hits, first_of, when, unless, Cell, live_from, hits_of, rank, by_slot, query_refusal, short_result, candidates, wide, searched_cascade, answered, step}
use Rattle.index.specs.Step as Step
use Rattle.index.specs.Call.{call}
use Rattle.index.specs.Answers.{result_of, found}
use Rattle.index.proofs.Kept.{first-refused}
use Rattle.index.proofs.Calls.{call-misfit, call-answered}
use Rattle.fit.proofs.Meaning.{meaning}
use Rattle.fit.proofs.Rooms.{enough}
use Rattle.held.proofs.Live.{cell_at}
use Rattle.nearest.specs.Distances.{distance_at}
use Rattle.nearest.specs.Nearest.{near_marks}
use Rattle.nearest.specs.Nearest as Nearest
use Rattle.score_slot.proofs.Query.{query-rotatable}
use Rattle.hits.specs.Hits.{Listed, scored_slots, chosen, ready, shown, list_answer}
use Rattle.std.specs.Prelude.{Ok}
use Rattle.asking.specs.Faults.{places_fault}
use Rattle.asking.proofs.Cells.{scores, cells, hits-listed}
use Rattle.asking.proofs.Live.{live-length}
use Rattle.asking.proofs.Answers.{first-nested, first-last, query-refusal, Leaves, is-ready, Other, leaves-hits, leaves_none}
use Rattle.search_cascade.specs.Cascade.{enabled, cascade_fault}
use Rattle.search_cascade.proofs.Candidates.{near, candidates-marked, candidates-count, marks-are}

-- ---- the tests one by one

module _ (x : Index) (a : Arrays) (q : Query) (k places n : ℕ) where
  abbrev places_test : ℕ
  places_test = places_fault x a k places

  abbrev query_test : ℕ
  query_test = fault (header_of x) q.vector

  pub fault-places : n ≡ places_test → (n ≡ 0 → ⊥) → n ≡ cascade_fault x a q k places
  unfolding cascade_fault first_of
  fault-places e some = go n some ∙ ap (λ (m : ℕ). first_of (m ∷ when (not (enabled x)) 11 ∷ query_test ∷ [])) e
    where
      go : (m : ℕ) → (m ≡ 0 → ⊥) → m ≡ first_of (m ∷ when (not (enabled x)) 11 ∷ query_test ∷ [])
      go zero s = absurd (s refl)
      go (suc m) s = refl

  module _ (e : 0 ≡ places_test) where
    pub fault-cascade : enabled x ≡ false → 11 ≡ cascade_fault x a q k places
    unfolding cascade_fault first_of
    fault-cascade f = λ j. first_of (e j ∷ when (not (sym f j)) 11 ∷ query_test ∷ [])

    pub fault-query : enabled x ≡ true → n ≡ query_test → n ≡ cascade_fault x a q k places
    unfolding cascade_fault first_of
    fault-query f g = go n ∙ (λ j. first_of (e j ∷ when (not (sym f j)) 11 ∷ g j ∷ []))
      where
        go : (m : ℕ) → m ≡ first_of (0 ∷ 0 ∷ m ∷ [])
        go zero = refl
        go (suc m) = refl

-- ---- the call

-- the candidates' list is no longer than that of all live slots may be
within : (wanted some all places : ℕ) {n : ℕ} → n ≡ min wanted (min some all) → min wanted all ≤ places → n ≤ places
within wanted some all places e l = omega arith

at-four : (x : Index) → enabled x ≡ true → x.bits ≡ 4
at-four x on = eqb-true x.bits 4 (both x.cascade (eqb x.bits 4) on).1

module _ (x : Index) (a : Arrays) (q : Query) (k r places : ℕ) where
  abbrev many : ℕ
  many = wide k r x.live

  abbrev live_cells : List Cell
  live_cells = live_from 0 (state_of x a).slots

  -- marks of the candidates
  module _ (marks : List ℕ) (are : (i : ℕ) → i < x.n → live_at marks i ≡ near x a q many i) where
    abbrev candidate_hits : List (ℕ × Float)
    candidate_hits = chosen (scores (header_of x) a q) marks x.n k

    abbrev nan_found : Bool
    nan_found = any (λ e. is_nan e.1) (scored_slots (scores (header_of x) a q) marks x.n)

    module _ (e : fit x a ≡ true) (on : enabled x ≡ true) where
      cells_count : length (cells (header_of x) a marks x.n) ≡ min many x.live
      cells_count = ap length (sym (candidates-marked x a q many marks are)) ∙ candidates-count x a q many e (at-four x on)

      tests : (w : ℕ) → first_of (short_result k x.live places ∷ when (not (enabled x)) 11 ∷ first_of (fault (header_of x) q.vector ∷ w ∷ []) ∷ []) ≡
          first_of (cascade_fault x a q k places ∷ w ∷ [])
      unfolding cascade_fault places_fault first_of
      tests w =
          let s = short_result k x.live places in
          let c = when (not (enabled x)) 11 in
          let f = fault (header_of x) q.vector in
          first-last (s ∷ c ∷ []) (f ∷ w ∷ [])
          ∙ sym (first-nested (places_fault x a k places ∷ c ∷ f ∷ []) (w ∷ []) ∙ first-nested (when (not (fit x a)) 13 ∷ s ∷ []) (c ∷ f ∷ w ∷ [])
          ∙ (λ j. first_of (when (not (e j)) 13 ∷ s ∷ c ∷ f ∷ w ∷ [])))

      answer-is : searched_cascade (state_of x a) live_cells q k r places ≡ unless (first_of (cascade_fault x a q k places ∷ when nan_found 12 ∷ [])) (hits candidate_hits)
      unfolding searched_cascade state_of
      answer-is =
          let h = header_of x in
          (λ j.
          let xs = hits_of h q (candidates h q (wide k r (live-length x a e j)) live_cells) in
          unless (first_of (short_result k (live-length x a e j) places ∷ when (not (enabled x)) 11 ∷ query_refusal h q xs ∷ []))
          (hits (map by_slot (choose rank k xs))))
          ∙ (λ j.
          let xs = hits_of h q (candidates-marked x a q many marks are j) in
          unless (first_of (short_result k x.live places ∷ when (not (enabled x)) 11 ∷ query_refusal h q xs ∷ [])) (hits (map by_slot (choose rank k xs))))
          ∙ (λ j. unless (first_of (short_result k x.live places ∷ when (not (enabled x)) 11 ∷ query-refusal h a q marks x.n j ∷ []))
          (hits (hits-listed h a q marks x.n k j)))
          ∙ ap (λ (n : ℕ). unless n (hits candidate_hits)) (tests (when nan_found 12))

      by_tests : (answer : Answer) → unless (first_of (cascade_fault x a q k places ∷ when nan_found 12 ∷ [])) (hits candidate_hits) ≡ answer →
          result_of x a answer ≡ call x a (Step.search_cascade q k r places)
      unfolding step
      by_tests answer f = sym (call-answered x a (Step.search_cascade q k r places) e answer (ap (answered (state_of x a)) (answer-is ∙ f)))

  -- ---- refused before any score

  -- not enabled, 11 comes before what the candidates would say
  idle-answer : fit x a ≡ true → enabled x ≡ false → searched_cascade (state_of x a) live_cells q k r places ≡ refused (cascade_fault x a q k places)
  unfolding searched_cascade state_of cascade_fault places_fault first_of
  idle-answer e off =
      let h = header_of x in
      let s = short_result k x.live places in
      let f = fault h q.vector in
      let found : ℕ → List Hit = λ n. hits_of h q (candidates h q (wide k r n) live_cells) in
      let shown : ℕ → Answer = λ n. hits (map by_slot (choose rank k (found n))) in
      (λ j. let n = live-length x a e j in unless (first_of (short_result k n places ∷ when (not (off j)) 11 ∷ query_refusal h q (found n) ∷ [])) (shown n))
      ∙ go s (query_refusal h q (found x.live)) f (shown x.live)
      ∙ (λ j. refused (first_of (first_of (when (not (sym e j)) 13 ∷ s ∷ []) ∷ when (not (sym off j)) 11 ∷ f ∷ [])))
    where
      go : (s w f : ℕ) (o : Answer) → unless (first_of (s ∷ 11 ∷ w ∷ [])) o ≡ refused (first_of (first_of (0 ∷ s ∷ []) ∷ 11 ∷ f ∷ []))
      go zero w f o = refl
      go (suc s) w f o = refl

  module _ (f : ℕ) (is : f ≡ cascade_fault x a q k places) (ns : List ℕ) (ss : List Float) where
    pub cascade-refused : (f ≡ 0 → ⊥) → Leaves x a (Step.search_cascade q k r places) found (turned_down f) ns ns ss ss
    unfolding cascade_fault places_fault first_of step
    cascade-refused some = (go (fit x a) (enabled x) refl refl, (refl, refl))
      where
        marks : List ℕ
        marks = over (near_marks (distance_at (header_of x) a.codes q) a.alive x.n many) []

        are : (i : ℕ) → i < x.n → live_at marks i ≡ near x a q many i
        are = marks-are x a q many []

        go : (b c : Bool) → fit x a ≡ b → enabled x ≡ c → result_of x a (refused f) ≡ call x a (Step.search_cascade q k r places)
        go true true e on =
            by_tests marks are e on (refused f)
            (ap (λ (m : ℕ). unless (first_of (m ∷ when (nan_found marks are) 12 ∷ [])) (hits (candidate_hits marks are))) (sym is)
            ∙ first-refused f (when (nan_found marks are) 12) (hits (candidate_hits marks are)) some)
        go true false e off =
            sym (call-answered x a (Step.search_cascade q k r places) e (refused f) (ap (answered (state_of x a)) (idle-answer e off ∙ ap refused (sym is))))
        go false c e o = ap (λ (m : ℕ). result_of x a (refused m)) (is ∙ rw e refl) ∙ sym (call-misfit x a (Step.search_cascade q k r places) e)

    -- ---- or not

    module _ (zeroed : f ≡ 0) where
      parts : (b c : Bool) → fit x a ≡ b → enabled x ≡ c → (s g : ℕ) → first_of (first_of (when (not b) 13 ∷ s ∷ []) ∷ when (not c) 11 ∷ g ∷ []) ≡ 0 →
          (fit x a ≡ true) × (enabled x ≡ true) × (s ≡ 0) × (g ≡ 0)
      unfolding first_of
      parts true true e c zero zero t = (e, c, refl, refl)
      parts true true e c zero (suc g) t = absurd (let z : suc g ≡ 0 = t in omega arith)
      parts true false e c zero g t = absurd (let z : ◌≡◌ {A = ℕ} 11 0 = t in omega arith)
      parts true c e o (suc s) g t = absurd (let z : suc s ≡ 0 = t in omega arith)
      parts false c e o s g t = absurd (let z : ◌≡◌ {A = ℕ} 13 0 = t in omega arith)

      passed : (fit x a ≡ true) × (enabled x ≡ true) × (short_result k x.live places ≡ 0) × (fault (header_of x) q.vector ≡ 0)
      unfolding cascade_fault places_fault
      passed = parts (fit x a) (enabled x) refl refl _ _ (sym is ∙ zeroed)

      -- what marking the candidates asks for
      marking-ready : (old : List ℕ) → length old ≡ 65536 → Nearest.cascadable x.n (length old) x.bits x.working_dim (length q.vector) ≡ true
      unfolding Nearest.cascadable
      marking-ready old size =
          let few = (enough (header_of x) a x.n ((meaning x a).yes passed.0).room).few in
          rw (size, le-leb x.n 65536 few, eq-eqb x.bits 4 (at-four x passed.1))
          (query-rotatable x a passed.0 q passed.3)

      -- after marking, and after `hits::list` by these marks
      module _ (old marks : List ℕ) (size : length old ≡ 65536) (n : ℕ) (wanted : n ≡ many)
          (set : marks ≡ cond (Nearest.cascadable x.n (length old) x.bits x.working_dim (length q.vector))
          (over (near_marks (distance_at (header_of x) a.codes q) a.alive x.n n) old) old) where
        marks-set : (i : ℕ) → i < x.n → live_at marks i ≡ near x a q many i
        marks-set i l =
            let e : marks ≡ over (near_marks (distance_at (header_of x) a.codes q) a.alive x.n many) old = set ∙ rw (marking-ready old size, wanted) in
            ap (λ (ms : List ℕ). live_at ms i) e ∙ marks-are x a q many old i l

        listed-length : length (candidate_hits marks marks-set) ≡ min (max k 1) (min many x.live)
        unfolding scored_slots
        listed-length =
            choose-length (λ (e : ℕ × Float). order_number e.1) k (scored_slots (scores (header_of x) a q) marks x.n)
            ∙ ap (min (max k 1)) (length-map (keep (live_at marks) (below x.n)) (λ (i : ℕ). (i, scores (header_of x) a q i))
            ∙ sym (length-map (keep (live_at marks) (below x.n)) (cell_at (slot_at (header_of x) a) x.n)) ∙ cells_count marks marks-set passed.0 passed.1)

        listed-fits : length (candidate_hits marks marks-set) ≤ places
        listed-fits = go (ltb places (min (max k 1) x.live)) refl passed.2
          where
            go : (b : Bool) → ltb places (min (max k 1) x.live) ≡ b → when b 13 ≡ 0 → length (candidate_hits marks marks-set) ≤ places
            go true l g = absurd (let z : ◌≡◌ {A = ℕ} 13 0 = g in omega arith)
            go false l g = within (max k 1) many x.live places listed-length (ltb-false places (min (max k 1) x.live) l)

        abbrev can : Bool
        can = ready x.n x.bits x.working_dim (length q.vector)

        yes : can ≡ true
        yes = is-ready x a passed.0 q passed.3

        answers : result_of x a (unless (when (nan_found marks marks-set) 12) (hits (candidate_hits marks marks-set))) ≡ call x a (Step.search_cascade q k r places)
        unfolding first_of
        answers =
            let o = hits (candidate_hits marks marks-set) in
            by_tests marks marks-set passed.0 passed.1 (unless (when (nan_found marks marks-set) 12) o)
            (ap (λ (m : ℕ). unless (first_of (m ∷ when (nan_found marks marks-set) 12 ∷ [])) o) (sym is ∙ zeroed) ∙ last (nan_found marks marks-set) o)
          where
            last : (b : Bool) (o : Answer) → unless (first_of (0 ∷ when b 12 ∷ [])) o ≡ unless (when b 12) o
            last true o = refl
            last false o = refl

        module _ (l : Listed) (ms : List ℕ) (ts : List Float) (g : l ≡ list_answer (scores (header_of x) a q) marks x.n can k places)
            (h : ms ≡ over (map (λ e. e.0) (shown (scores (header_of x) a q) marks x.n k l)) ns)
            (i : ts ≡ over (map (λ e. e.1) (shown (scores (header_of x) a q) marks x.n k l)) ss) where
          pub cascade-listed : (m : ℕ) → l ≡ Ok m → Leaves x a (Step.search_cascade q k r places) found (granted m) ns ms ss ts
          cascade-listed m o =
              leaves-hits (scores (header_of x) a q) marks x.n can k places yes listed-fits l g
              x a (Step.search_cascade q k r places) answers ns ms ss ts h i m o

          pub cascade-nan : Other l → Leaves x a (Step.search_cascade q k r places) found (turned_down 12) ns ms ss ts
          cascade-nan o =
              leaves_none (scores (header_of x) a q) marks x.n can k places yes listed-fits l g
              x a (Step.search_cascade q k r places) answers ns ms ss ts h i o
