-- The call `search_keyed`: refused by its tests, or else the live slots' hits by key.
use mathlib.Core.Path.{◌≡◌, refl, sym, ap, subst, ◌∙◌}
use mathlib.Core.Bool.{Bool, true, false}
use mathlib.Core.List.{List, [], ◌∷◌, map}
use mathlib.Core.Option.{none}
use Prim.Native.Nat.{ℕ, ◌-◌, ◌≤◌, ◌<◌, min, max}
use native.Mathlib.Nat.{sub-zero}
use native.Mathlib.Omega.{arith}
use lib.ListN.{length, take, length-map}
use lib.Ieee.{Float}
use borrow.Author.Tests.{le-leb}
use Rattle.lists.specs.Lists.{zip_with, over}
use Rattle.lists.specs.Keep.{Each}
use Rattle.lists.proofs.Front.{take-over}
use Rattle.slot_keys.specs.Has.{key_at}
use Rattle.index.specs.declared.Index.{Index}
use Rattle.index.specs.Verdict.{Verdict, granted, turned_down}
use Rattle.index.specs.Arrays.{Arrays}
use Rattle.index.specs.State.{header_of, state_of}
use Rattle.index.specs.Fit.{fit}
use Rattle.index.specs.Step.{Query, Hit, Answer, key_hits, when, live_from, by_key, key_of_mark, searched, answered, step}
use Rattle.index.specs.Step as Step
use Rattle.index.specs.Call.{call}
use Rattle.index.specs.Answers.{result_of, found_keyed}
use Rattle.index.proofs.Determined.{pairs-there}
use Rattle.held.proofs.Value.{mark-part}
use Rattle.std.specs.Prelude.{Ok, Err}
use Rattle.hits.specs.Hits.{Listed, ready, shown, list_answer}
use Rattle.distinct.specs.Distinct.{hit_at, keyed_list, keyed_shown}
use Rattle.search_keyed.specs.Named.{listed_count, keyed_of, named_answer}
use Rattle.asking.specs.Faults.{search_fault}
use Rattle.asking.proofs.Cells.{scores, hit, chosen-low}
use Rattle.asking.proofs.Answers.{Leaves, is-ready, Other, listed, answer-is}
use Rattle.asking.proofs.Searched.{live_nan, live_chosen, shown_by, searched-fits, searched-query, chosen-length, chosen-places, chosen-few, search-refused, search-listed}

abbrev by_keys : List Hit → Answer
by_keys xs = key_hits (by_key [] xs)

-- the listed slots with the keys that the arrays have for them, as the step has them
slots-hits : (x : Index) (a : Arrays) → fit x a ≡ true → (es : List (ℕ × Float)) → Each (λ y. y.0 < x.n) es →
    zip_with (hit_at a.keys a.keyed) (map (λ y. y.0) es) (map (λ y. y.1) es) ≡ map (hit (header_of x) a) es
unfolding key_at
slots-hits x a e [] low = refl
slots-hits x a e (y ∷ es) low =
    λ j. record {
      number = y.0;
      key = sym (mark-part x a e y.0 low.0 key_of_mark none (λ u. refl) (λ u. refl)) j;
      score = y.1;
    } ∷ slots-hits x a e es low.1 j

-- `name_hits`
module _ (keys : List ℕ) (keyed : List Bool) (us : List ℕ) (ws : List Float) (places : ℕ) where
  -- the answer is that of the hits `r`, and both results are written over with their keys
  abbrev Names : (r : Listed) (s : Verdict ℕ) (ns ms : List ℕ) (ss ls : List Float) → Type 0
  Names r s ns ms ss ls =
      (s ≡ named_answer r (keyed_of keys keyed us ws places r)) ×
      ((ms ≡ over (map (λ y. y.0) (keyed_of keys keyed us ws places r)) ns) × (ls ≡ over (map (λ y. y.1) (keyed_of keys keyed us ws places r)) ss))

  pub none_named : (r : Listed) → Other r → (ns : List ℕ) (ss : List Float) → Names r (turned_down 12) ns ns ss ss
  unfolding over
  none_named (Ok m) o ns ss = absurd o
  none_named (Err u) o ns ss = (refl, (refl, refl))

  -- by the first m places
  abbrev first : ℕ → List (ℕ × Float)
  first m = keyed_shown keys keyed (take (m - 0) us) (take (m - 0) ws) places

  same : (r : Listed) (m : ℕ) → r ≡ Ok m → first m ≡ keyed_of keys keyed us ws places r
  same r m e = ap (λ (z : ℕ). keyed_shown keys keyed (take z us) (take z ws) places) (sub-zero m) ∙ ap (keyed_of keys keyed us ws places) (sym e)

  pub named-hits : (r : Listed) (m : ℕ) → r ≡ Ok m → (n : ℕ) (ns ms : List ℕ) (ss ls : List Float) →
      n ≡ length (first m) → ms ≡ over (map (λ y. y.0) (first m)) ns → ls ≡ over (map (λ y. y.1) (first m)) ss → Names r (granted n) ns ms ss ls
  named-hits r m e n ns ms ss ls i j l = (
    ap granted (i ∙ ap length (same r m e)) ∙ ap (λ (f : Listed). named_answer f (keyed_of keys keyed us ws places r)) (sym e),
    (
      j ∙ ap (λ (es : List (ℕ × Float)). over (map (λ y. y.0) es) ns) (same r m e),
      l ∙ ap (λ (es : List (ℕ × Float)). over (map (λ y. y.1) es) ss) (same r m e),
    ),
  )

module _ (x : Index) (a : Arrays) (q : Query) (k places : ℕ) where
  is : (room : ℕ) → step room (state_of x a) (Step.search_keyed q k places) ≡
      answered (state_of x a) (searched (header_of x) (live_from 0 (state_of x a).slots) q k places by_keys)
  unfolding step state_of
  is room = refl

  abbrev es : List (ℕ × Float)
  es = live_chosen x a q k

  abbrev can : Bool
  can = ready x.n x.bits x.working_dim (length q.vector)

  -- f is the number that the tests gave
  module _ (f : ℕ) (e : f ≡ search_fault x a q k places) where
    pub keys-refused : (f ≡ 0 → ⊥) → (ns : List ℕ) (ss : List Float) → Leaves x a (Step.search_keyed q k places) found_keyed (turned_down f) ns ns ss ss
    keys-refused some ns ss = (search-refused x a q k places (Step.search_keyed q k places) by_keys is f e some, (refl, refl))

  -- Where the tests found no fault: after `hits::list` into working arrays of `room` places.
  module _ (accepted : search_fault x a q k places ≡ 0) (room : ℕ) (wide : min (min (max k 1) x.live) 65536 ≤ room) where
    fits : fit x a ≡ true
    fits = searched-fits x a q k places accepted

    few : length es ≤ room
    few = omega (arith, wide, chosen-length x a q k places fits, chosen-few x a q k places accepted)

    yes : can ≡ true
    yes = is-ready x a fits q (searched-query x a q k places accepted)

    abbrev given : Bool → Listed
    given b = listed (scores (header_of x) a q) a.alive x.n can k room yes b

    gives : (b : Bool) → live_nan x a q ≡ b → list_answer (scores (header_of x) a q) a.alive x.n can k room ≡ given b
    gives b t = answer-is (scores (header_of x) a q) a.alive x.n can k room yes few b t

    pub listed-few : (r : Listed) → r ≡ list_answer (scores (header_of x) a q) a.alive x.n can k room → listed_count r ≤ room
    listed-few r g = go (live_nan x a q) refl
      where
        go : (b : Bool) → live_nan x a q ≡ b → listed_count r ≤ room
        go true t = rw (g ∙ gives true t) (omega arith)
        go false t = rw (g ∙ gives false t) few

    -- and `name_hits` of what it leaves in them
    module _ (r : Listed) (g : r ≡ list_answer (scores (header_of x) a q) a.alive x.n can k room) (us vs : List ℕ) (ts ws : List Float)
        (o : vs ≡ over (map (λ y. y.0) (shown (scores (header_of x) a q) a.alive x.n k r)) us)
        (p : ws ≡ over (map (λ y. y.1) (shown (scores (header_of x) a q) a.alive x.n k r)) ts) where
      -- the first places of the working arrays are the list
      first_of : {X : Type 0} → live_nan x a q ≡ false → (part : ℕ × Float → X) (before after : List X) →
          after ≡ over (map part (shown (scores (header_of x) a q) a.alive x.n k r)) before → take (length es) after ≡ map part es
      first_of t part before after i =
          ap (take (length es)) (i ∙ ap (λ (l : Listed). over (map part (shown (scores (header_of x) a q) a.alive x.n k l)) before) (g ∙ gives false t))
          ∙ take-over (map part es) before (length es) (sym (length-map es part))

      -- the keys that are written after an answer
      abbrev written : Listed → List (ℕ × Float)
      written l = keyed_of a.keys a.keyed vs ws places l

      by_key_lem : live_nan x a q ≡ false → written (given false) ≡ by_key [] (map (hit (header_of x) a) es)
      unfolding keyed_shown keyed_list
      by_key_lem t =
          let n = min (length (map (λ (y : ℕ × Float). y.0) es)) (length (map (λ (y : ℕ × Float). y.1) es)) in
          let same : n ≤ length es = omega (arith, length-map es (λ (y : ℕ × Float). y.0)) in
          (λ j. keyed_shown a.keys a.keyed (first_of t (λ y. y.0) us vs o j) (first_of t (λ y. y.1) ts ws p j) places)
          ∙ rw (le-leb n 65536 (omega (arith, same, chosen-few x a q k places accepted)), le-leb n places (omega (arith, same, chosen-places x a q k places accepted)))
          (ap (by_key []) (slots-hits x a fits es (chosen-low (header_of x) a q a.alive x.n k)))

      -- what is left of the call by it
      module _ (s : Verdict ℕ) (ns ms : List ℕ) (ss ls : List Float) (h : s ≡ named_answer r (written r))
          (i : ms ≡ over (map (λ y. y.0) (written r)) ns) (l : ls ≡ over (map (λ y. y.1) (written r)) ss) where
        abbrev shown_as : Bool → Answer
        shown_as b = shown_by x a q k by_keys (when b 12)

        answers : (b : Bool) → live_nan x a q ≡ b → result_of x a (shown_as b) ≡ call x a (Step.search_keyed q k places)
        answers b t = ap (λ (c : Bool). result_of x a (shown_as c)) (sym t) ∙ search-listed x a q k places (Step.search_keyed q k places) by_keys is accepted

        named : (b : Bool) → live_nan x a q ≡ b → Leaves x a (Step.search_keyed q k places) found_keyed (named_answer (given b) (written (given b))) ns ms ss ls
        unfolding over
        named true t =
            let none : r ≡ given true = g ∙ gives true t in
            (answers true t, (rw none at i, rw none at l))
        named false t =
            let some : r ≡ given false = g ∙ gives false t in
            let there = pairs-there (written (given false)) ns ss (length (written (given false))) ms ls refl (rw some at i) (rw some at l) in
            (ap (λ (ks : List (ℕ × Float)). result_of x a (key_hits ks)) (there.0 ∙ by_key_lem t) ∙ answers false t, there.1)

        pub keys-named : Leaves x a (Step.search_keyed q k places) found_keyed s ns ms ss ls
        keys-named =
            subst (λ (f : Verdict ℕ). Leaves x a (Step.search_keyed q k places) found_keyed f ns ms ss ls)
            (sym (h ∙ ap (λ (l : Listed). named_answer l (written l)) (g ∙ gives (live_nan x a q) refl))) (named (live_nan x a q) refl)
