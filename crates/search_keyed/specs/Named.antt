-- A keyed search by way of a list of hits (document 01, store.rs: "`search_keyed` drops unkeyed hits and repeats").
use Rattle.std.specs.Prelude.{Bool, List, [], ℕ, length, take, Float, Ok, Err}
use Rattle.index.specs.Verdict.{Verdict, granted, turned_down}
use Rattle.hits.specs.Hits.{Listed}
use Rattle.distinct.specs.Distinct.{keyed_shown}

-- how many hits are listed
abbrev pub listed_count : Listed → ℕ
listed_count (Ok m) = m
listed_count (Err u) = 0

-- the keyed list of the hits in the first places of two arrays, as many as are listed
abbrev pub keyed_of : (keys : List ℕ) → (keyed : List Bool) → (slots : List ℕ) → (scores : List Float) → (places : ℕ) → Listed → List (ℕ × Float)
keyed_of keys keyed slots scores places (Ok m) = keyed_shown keys keyed (take m slots) (take m scores) places
keyed_of keys keyed slots scores places (Err u) = []

-- how many keys are listed where hits are, and else 12: after a search's tests the list can be made, so that a score is NaN
abbrev pub named_answer : Listed → List (ℕ × Float) → Verdict ℕ
named_answer (Ok m) es = granted (length es)
named_answer (Err u) es = turned_down 12
