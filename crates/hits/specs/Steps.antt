-- Words of the contracts on the way to the list.
use Rattle.std.specs.Prelude.{◌≡◌, Bool, true, false, not, cond, ◌&&◌, List, map, ℕ, zero, suc, min, ◌<◌, ltb, length, take, drop, get_or, Float, Ok, Err}
use Rattle.std.proofs.Math.Option.{none, some}
use Rattle.std.specs.List.{list_any, range_with_len}
use Rattle.std.proofs.lemmas.List.Edits.{sets}
use Rattle.std.specs.Float.{nan}
use Rattle.std.specs.Float.Ieee.{is_nan}
use Rattle.pattern.specs.Binary32.{+0}
use Rattle.lists.specs.Lists.{over, below}
use Rattle.encode.specs.declared.Header.{Header}
use Rattle.score.specs.Score.{slot_score}
use Rattle.score.specs.Order.{order_number}
use Rattle.choose_slots.specs.Slots.{listed_within}
use Rattle.hits.specs.declared.Unlisted.TheVariants.{Unable}
use Rattle.index.specs.declared.Index.{Index}
use Rattle.index.specs.Arrays.{Arrays}
use Rattle.index.specs.State.{header_of, stage_at}
use Rattle.lists.specs.Keep.{keep}
use Rattle.marks.specs.Live.{live_at}
use Rattle.hits.specs.Hits.{Listed, shown, list_answer}

-- the score of each slot under a prepared query, by a table of centroids
unfoldable pub score_prepared : Header → (codes scales codes2 scales2 : List ℕ) → (centroids prepared : List Float) → ℕ → Float
score_prepared h codes scales codes2 scales2 centroids q i =
    slot_score h.bits centroids q (stage_at h scales codes i) (cond h.residual (some (stage_at h scales2 codes2 i)) none)

-- the same by a record and its arrays
abbrev pub prepared_score : Index → Arrays → (centroids prepared : List Float) → ℕ → Float
prepared_score x a centroids prepared = score_prepared (header_of x) a.codes a.scales a.codes2 a.scales2 centroids prepared

module _ (score : ℕ → Float) (marks : List ℕ) where
  -- what the working arrays have at a slot: its score, and its order number; 0 for a slot that takes no part
  unfoldable pub score_entry : ℕ → Float
  score_entry i = cond (live_at marks i) (score i) +0

  unfoldable pub order_entry : ℕ → ℕ
  order_entry i = cond (live_at marks i) (order_number (score i)) 0

  -- whether a slot takes part with a NaN for its score
  abbrev pub nan_at : ℕ → Bool
  nan_at i = live_at marks i && is_nan (score i)

  -- whether one of `many` slots from `first` on does
  abbrev pub any_nan : (first many : ℕ) → Bool
  any_nan first many = list_any nan_at (range_with_len first many)

  -- The scores of the marked slots below n are in their places; the places from n on are as they were.
  pub record Scores (n : ℕ) (all next : List Float) : Type 0 where
    pub same : length next ≡ length all
    pub there : (i : ℕ) → i < n → live_at marks i ≡ true → get_or next i nan ≡ score i
    pub rest : drop n next ≡ drop n all

  -- What entering `many` slots from `first` on does: `r` says that none of them takes part with a NaN, and where that is so their entries are written.
  pub record EntersFrom (first many : ℕ) (all next : List Float) (orders after : List ℕ) (r : Bool) : Type 0 where
    pub sound : r ≡ not (any_nan first many)
    pub scores-in : r ≡ true → next ≡ sets all first (map score_entry (range_with_len first many))
    pub orders-in : r ≡ true → after ≡ sets orders first (map order_entry (range_with_len first many))

  -- what entering slot i does
  abbrev pub EntersSlot : (i : ℕ) (all next : List Float) (orders after : List ℕ) (r : Bool) → Type 0
  EntersSlot i = EntersFrom i 1

  -- what entering the slots below n does
  abbrev pub EntersSlots : (n : ℕ) (all next : List Float) (orders after : List ℕ) (r : Bool) → Type 0
  EntersSlots n = EntersFrom 0 n

-- What is written by scores and order numbers of the slots: the chosen slots and their scores, of which there are r.
pub record WritesHits (all : List Float) (orders : List ℕ) (k : ℕ) (slots next : List ℕ) (scores after : List Float) (r : ℕ) : Type 0 where
  pub many : r ≡ length (listed_within orders k (take (min (length slots) (length scores)) slots))
  pub slots-in : next ≡ over (listed_within orders k (take (min (length slots) (length scores)) slots)) slots
  pub scores-in : after ≡ over (map (λ i. get_or all i +0) (listed_within orders k (take (min (length slots) (length scores)) slots))) scores

-- one of the slots below n takes part
unfoldable pub any_takes_part : (marks : List ℕ) → (n : ℕ) → Bool
any_takes_part marks n = ltb 0 (length (keep (live_at marks) (below n)))

-- the answer where m hits are written, by whether a slot takes part: if one does, there is a hit, so no hit says that places are too few
abbrev pub count_answer : (m : ℕ) → (any : Bool) → Listed
count_answer zero true = Err Unable
count_answer zero false = Ok 0
count_answer (suc m) b = Ok (suc m)

-- What the call promises where it can be made.
pub record ListsHits (score : ℕ → Float) (marks : List ℕ) (n k : ℕ) (slots next : List ℕ) (scores after : List Float) (r : Listed) : Type 0 where
  pub answers : r ≡ list_answer score marks n true k (min (length slots) (length scores))
  pub slots-in : next ≡ over (map (λ e. e.0) (shown score marks n k r)) slots
  pub scores-in : after ≡ over (map (λ e. e.1) (shown score marks n k r)) scores
