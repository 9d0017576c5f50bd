-- The call `search`: refused by its tests, or else the list of the live slots' hits by slot.
use mathlib.Core.Path.{◌≡◌, refl, sym, ◌∙◌}
use mathlib.Core.Bool.{Bool, true}
use mathlib.Core.List.{List, map}
use Prim.Native.Nat.{ℕ}
use lib.ListN.{length}
use lib.Ieee.{Float}
use Rattle.lists.specs.Lists.{over}
use Rattle.index.specs.declared.Index.{Index}
use Rattle.index.specs.Verdict.{granted, turned_down}
use Rattle.index.specs.Arrays.{Arrays}
use Rattle.index.specs.State.{header_of, state_of}
use Rattle.index.specs.Step.{Query, Hit, Answer, hits, when, unless, live_from, by_slot, searched, answered, step}
use Rattle.index.specs.Step as Step
use Rattle.index.specs.Call.{call}
use Rattle.index.specs.Answers.{result_of, found}
use Rattle.std.specs.Prelude.{Ok}
use Rattle.hits.specs.Hits.{Listed, ready, shown, list_answer}
use Rattle.asking.specs.Faults.{search_fault}
use Rattle.asking.proofs.Cells.{scores, by-slot}
use Rattle.asking.proofs.Answers.{Leaves, is-ready, Other, leaves-hits, leaves_none}
use Rattle.asking.proofs.Searched.{live_nan, live_chosen, searched-fits, searched-query, chosen-places, search-refused, search-listed}

abbrev by_slots : List Hit → Answer
by_slots xs = hits (map by_slot xs)

module _ (x : Index) (a : Arrays) (q : Query) (k places : ℕ) where
  is : (room : ℕ) → step room (state_of x a) (Step.search q k places) ≡
      answered (state_of x a) (searched (header_of x) (live_from 0 (state_of x a).slots) q k places by_slots)
  unfolding step state_of
  is room = refl

  -- f is the number that the tests gave
  module _ (f : ℕ) (e : f ≡ search_fault x a q k places) (ns : List ℕ) (ss : List Float) where
    pub slots-refused : (f ≡ 0 → ⊥) → Leaves x a (Step.search q k places) found (turned_down f) ns ns ss ss
    slots-refused some = (search-refused x a q k places (Step.search q k places) by_slots is f e some, (refl, refl))

    abbrev can : Bool
    can = ready x.n x.bits x.working_dim (length q.vector)

    -- after `hits::list`
    module _ (z : f ≡ 0) (r : Listed) (ms : List ℕ) (ts : List Float) (g : r ≡ list_answer (scores (header_of x) a q) a.alive x.n can k places)
        (h : ms ≡ over (map (λ y. y.0) (shown (scores (header_of x) a q) a.alive x.n k r)) ns)
        (i : ts ≡ over (map (λ y. y.1) (shown (scores (header_of x) a q) a.alive x.n k r)) ss) where
      none : search_fault x a q k places ≡ 0
      none = sym e ∙ z

      yes : can ≡ true
      yes = is-ready x a (searched-fits x a q k places none) q (searched-query x a q k places none)

      answers : result_of x a (unless (when (live_nan x a q) 12) (hits (live_chosen x a q k))) ≡ call x a (Step.search q k places)
      answers =
          (λ j. result_of x a (unless (when (live_nan x a q) 12) (hits (sym (by-slot (header_of x) a (live_chosen x a q k)) j))))
          ∙ search-listed x a q k places (Step.search q k places) by_slots is none

      pub slots-listed : (m : ℕ) → r ≡ Ok m → Leaves x a (Step.search q k places) found (granted m) ns ms ss ts
      slots-listed m o =
          leaves-hits (scores (header_of x) a q) a.alive x.n can k places yes (chosen-places x a q k places none) r g
          x a (Step.search q k places) answers ns ms ss ts h i m o

      pub slots-nan : Other r → Leaves x a (Step.search q k places) found (turned_down 12) ns ms ss ts
      slots-nan o =
          leaves_none (scores (header_of x) a q) a.alive x.n can k places yes (chosen-places x a q k places none) r g
          x a (Step.search q k places) answers ns ms ss ts h i o
