-- A list of hits (document 01, store.rs, choice of slots): the slots that a mark says take part, each with its score, chosen by order number.
use Rattle.std.specs.Prelude.{Bool, not, cond, ◌&&◌, List, [], map, ℕ, length, leb, ltb, Float, Result, Ok, Err}
use Rattle.std.specs.Float.Ieee.{is_nan}
use Rattle.lists.specs.Keep.{keep, any}
use Rattle.choose.specs.Choose.{choose}
use Rattle.score.specs.Order.{order_number}
use Rattle.unit.specs.Brought.{Query}
use Rattle.padding.specs.Rotatable.{rotatable}
use Rattle.encode.specs.declared.Header.{Header}
use Rattle.encode.specs.Coded.{code_in}
use Rattle.lists.specs.Lists.{below}
use Rattle.hits.specs.declared.Unlisted.{Unlisted}
use Rattle.hits.specs.declared.Unlisted.TheVariants.{Nan, Unable}
use Rattle.index.specs.declared.Index.{Index}
use Rattle.index.specs.Arrays.{Arrays}
use Rattle.index.specs.State.{header_of, stage_at}
use Rattle.index.specs.Codec.{score_of}
use Rattle.marks.specs.Live.{live_at}

-- the score of each slot by the arrays of codes and scales
unfoldable pub score_at : Header → (codes scales codes2 scales2 : List ℕ) → Query → ℕ → Float
score_at h codes scales codes2 scales2 q i = score_of h q (code_in h.residual (stage_at h scales codes i) (stage_at h scales2 codes2 i))

-- the same by a record and its arrays
abbrev pub slot_score_in : Index → Arrays → Query → ℕ → Float
slot_score_in x a q = score_at (header_of x) a.codes a.scales a.codes2 a.scales2 q

-- how many hits are in their places, or why there are none
abbrev pub Listed : Type 0
Listed = Result ℕ Unlisted

module _ (score : ℕ → Float) (marks : List ℕ) (n : ℕ) where
  -- number and score of the slots that take part, in slot order
  unfoldable pub scored_slots : List (ℕ × Float)
  scored_slots = map (λ i. (i, score i)) (keep (live_at marks) (below n))

  abbrev pub chosen : (k : ℕ) → List (ℕ × Float)
  chosen k = choose (λ e. order_number e.1) k scored_slots

  -- what the call answers, `able` being `ready` below: of three tests in their order the first that fails
  unfoldable pub list_answer : (able : Bool) → (k places : ℕ) → Listed
  list_answer able k places =
      cond (not able) (Err Unable) (cond (any (λ e. is_nan e.1) scored_slots) (Err Nan)
      (cond (ltb places (length (chosen k))) (Err Unable) (Ok (length (chosen k)))))

  -- the list that it writes
  abbrev pub shown : (k : ℕ) → Listed → List (ℕ × Float)
  shown k (Ok m) = chosen k
  shown k (Err u) = []

-- at most 65,536 slots, of a width that there is, under a query that can be rotated
unfoldable pub ready : (slots width working entries : ℕ) → Bool
ready slots width working entries = leb slots 65536 && ((leb 4 width && leb width 6) && rotatable working entries 4096)
