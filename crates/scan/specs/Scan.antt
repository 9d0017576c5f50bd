-- The scores of one stage of many slots at once: of each marked slot, what the stage alone scores (document 01, store.rs).
use Rattle.std.specs.Prelude.{Bool, cond, List, ℕ, leb, length, get_or, Float}
use Rattle.std.specs.Float.{nan}
use Rattle.pattern.specs.Binary32.{◌⊕◌}
use Rattle.lists.specs.Lists.{tab, over}
use Rattle.marks.specs.Live.{live_at}
use Rattle.codes.specs.Slots.{block_at}
use Rattle.codes.specs.Stage.{stage}
use Rattle.score.specs.Score.{stage_score}

-- the score of a slot's stage, by the arrays of codes and scales
unfoldable pub stage_of : (w : ℕ) → (centroids query : List Float) → (size : ℕ) → (codes scales : List ℕ) → ℕ → Float
stage_of w centroids query size codes scales i = stage_score w centroids query (stage (get_or scales i 0) (block_at size i codes))

-- what an entry becomes: the score, which for a second stage is added to the old entry. That of a slot without a mark stays.
unfoldable pub score_after : (marked second : Bool) → (score old : Float) → Float
score_after marked second score old = cond marked (cond second (old ⊕ score) score) old

module _ (score : ℕ → Float) (marks : List ℕ) (second : Bool) where
  abbrev pub score_now : ℕ → Float → Float
  score_now i = score_after (live_at marks i) second (score i)

  -- the entries of the first n slots; where there are fewer places, nothing is written
  unfoldable pub scanned : (n : ℕ) → List Float → List Float
  scanned n all = cond (leb n (length all)) (over (tab (λ i. score_now i (get_or all i nan)) n) all) all
