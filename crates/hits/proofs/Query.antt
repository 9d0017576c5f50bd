-- The scores under a prepared query are those under the query.
use mathlib.Core.Path.{◌≡◌, subst}
use mathlib.Core.Bool.{Bool, cond}
use mathlib.Core.List.{List}
use mathlib.Core.Option.{none, some}
use Prim.Native.Nat.{ℕ}
use lib.Dec.{T}
use lib.Ieee.{Float, binary32, fits}
use Rattle.lloyd.specs.Tables.{centroids_of}
use Rattle.unit.specs.Brought.{Query}
use Rattle.unit.specs.Unit.{rotated_by, prepared}
use Rattle.encode.specs.declared.Header.{Header}
use Rattle.score.specs.Score.{slot_score}
use Rattle.score.proofs.Slot.{score-fits}
use Rattle.index.specs.State.{stage_at}
use Rattle.index.specs.Codec.{score_by_table}
use Rattle.hits.specs.Hits.{score_at}
use Rattle.hits.specs.Steps.{score_prepared, EntersSlots}

module _ (h : Header) (codes scales codes2 scales2 : List ℕ) (q : Query) where
  scores-prepared : (cs xs : List Float) → cs ≡ centroids_of h.bits → xs ≡ prepared (rotated_by h.working_dim h.seed q.vector) →
      score_prepared h codes scales codes2 scales2 cs xs ≡ score_at h codes scales codes2 scales2 q
  unfolding score_prepared score_at score_by_table
  scores-prepared cs xs e f =
      λ j i. slot_score h.bits (e j) (f j) (stage_at h scales codes i) (cond h.residual (some (stage_at h scales2 codes2 i)) none)

  -- so is what entering slots under it does
  pub entered-prepared : (cs xs : List Float) → cs ≡ centroids_of h.bits → xs ≡ prepared (rotated_by h.working_dim h.seed q.vector) →
      (marks : List ℕ) (n : ℕ) (all next : List Float) (orders after : List ℕ) (r : Bool) →
      EntersSlots (score_prepared h codes scales codes2 scales2 cs xs) marks n all next orders after r →
      EntersSlots (score_at h codes scales codes2 scales2 q) marks n all next orders after r
  entered-prepared cs xs e f marks n all next orders after r =
      subst (λ (score : ℕ → Float). EntersSlots score marks n all next orders after r) (scores-prepared cs xs e f)

  -- each is a binary32
  pub scores-fit : (i : ℕ) → T (fits binary32 (score_at h codes scales codes2 scales2 q i))
  unfolding score_at score_by_table
  scores-fit i = score-fits _ _ _ _ (cond h.residual (some (stage_at h scales2 codes2 i)) none)
