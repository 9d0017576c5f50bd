-- What is lent for a slot's score: its stages as the arrays hold them, and the prepared query.
use mathlib.Core.Path.{◌≡◌, refl, sym, ap, ◌∙◌}
use mathlib.Core.Bool.{Bool, true, false, cond, ◌&&◌}
use mathlib.Core.List.{List}
use mathlib.Core.Option.{none, some}
use Prim.Native.Nat.{ℕ, ◌-◌, ◌≤◌}
use native.Mathlib.Nat.{sub-zero}
use lib.ListN.{length, take, drop, get_or}
use lib.Seq.{take-append_seam}
use lib.Dec.{leb}
use lib.Ieee.{Float}
use borrow.Author.Tests.{leb-true}
use Rattle.lists.specs.Lists.{over}
use Rattle.padding.specs.Padded.{padded_dim}
use Rattle.lloyd.specs.Tables.{centroids_of}
use Rattle.codes.specs.Packing.{bytes_per_vector}
use Rattle.codes.specs.Slots.{block_at}
use Rattle.codes.specs.Stage.{Stage, stage}
use Rattle.codes.specs.Writing.{at_width}
use Rattle.unit.specs.Brought.{Query}
use Rattle.unit.specs.Unit.{rotated_by, prepared, unit, norm}
use Rattle.padding.specs.Rotatable.{rotatable}
use Rattle.unit.specs.Calls.{Prepared, query, prepared_into}
use Rattle.vectors.proofs.Filling.{length-divided}
use Rattle.unit.proofs.Vectors.{length-rotated}
use Rattle.encode.specs.declared.Header.{Header}
use Rattle.encode.specs.Header.{block_size}
use Rattle.encode.specs.Coded.{code_in}
use Rattle.score.specs.declared.Scored.{Scored}
use Rattle.pattern.specs.Binary32.{◌⊕◌}
use Rattle.score.specs.Score.{fitting, of_block, raw_of_block, stage_score, slot_score, judged}
use Rattle.index.specs.State.{stage_at}
use Rattle.index.specs.Codec.{score_by_table, score_of}
use Rattle.lists.proofs.Tests.{and_left, and_right}
use Rattle.fit.proofs.Rooms.{in-width}

-- ---- a stage of a slot

module _ (h : Header) (centroids q : List Float) where
  abbrev score_by : Stage → Float
  score_by g = stage_score h.bits centroids q g

  -- the bytes of a slot, as the program asks for them
  size_is : (p s : ℕ) → 4 ≤ h.bits → h.bits ≤ 6 → p ≡ padded_dim h.working_dim → s ≡ at_width h.bits (bytes_per_vector h.bits p) → s ≡ block_size h
  size_is p s l m e f = f ∙ in-width h.bits (bytes_per_vector h.bits p) l m ∙ ap (bytes_per_vector h.bits) e

  -- at any other width the block does not count
  no_block : (scale : ℕ) (block other : List ℕ) → (leb 4 h.bits && leb h.bits 6) ≡ false → score_by (stage scale block) ≡ score_by (stage scale other)
  unfolding stage_score raw_of_block of_block fitting
  no_block scale block other t = rw t

  pub stage-lent : (p s : ℕ) → p ≡ padded_dim h.working_dim → s ≡ at_width h.bits (bytes_per_vector h.bits p) →
      (scales codes : List ℕ) (i scale : ℕ) (block : List ℕ) → scale ≡ get_or scales i 0 → block ≡ block_at s i codes →
      score_by (stage scale block) ≡ score_by (stage_at h scales codes i)
  stage-lent p s e f scales codes i scale block g k = go (leb 4 h.bits && leb h.bits 6) refl
    where
      go : (b : Bool) → (leb 4 h.bits && leb h.bits 6) ≡ b → score_by (stage scale block) ≡ score_by (stage_at h scales codes i)
      go true t =
          let l : 4 ≤ h.bits = leb-true 4 h.bits (and_left (leb 4 h.bits) (leb h.bits 6) t) in
          let m : h.bits ≤ 6 = leb-true h.bits 6 (and_right (leb 4 h.bits) (leb h.bits 6) t) in
          let b : block ≡ block_at (block_size h) i codes = k ∙ ap (λ (z : ℕ). block_at z i codes) (size_is p s l m e f) in
          λ j. score_by (stage (g j) (b j))
      go false t = no_block scale block (block_at (block_size h) i codes) t ∙ ap (λ (z : ℕ). score_by (stage z (block_at (block_size h) i codes))) g

-- the second stage counts only where the index is residual
module _ (w : ℕ) (centroids q : List Float) (first second : Stage) (r : Scored) where
  pub one-stage : (g : Stage) → stage_score w centroids q g ≡ stage_score w centroids q first → (b : Bool) → b ≡ false →
      r ≡ judged (slot_score w centroids q g none) → r ≡ judged (slot_score w centroids q first (cond b (some second) none))
  unfolding slot_score
  one-stage g e b f k = rw f (k ∙ ap judged e)

  pub two-stages : (g d : Stage) → stage_score w centroids q g ≡ stage_score w centroids q first → stage_score w centroids q d ≡ stage_score w centroids q second →
      (b : Bool) → b ≡ true → r ≡ judged (slot_score w centroids q g (some d)) → r ≡ judged (slot_score w centroids q first (cond b (some second) none))
  unfolding slot_score
  two-stages g d e o b f k = rw f (k ∙ (λ j. judged (e j ⊕ o j)))

-- ---- the prepared query

-- `&out[0..p]` of an array into which a query was prepared
pub query-lent : (working seed : ℕ) (q out next : List Float) (r : Float) → rotatable working (length q) (length out) ≡ true → query r next ≡ prepared_into working seed q out →
    (p : ℕ) → p ≡ padded_dim working → take (p - 0) next ≡ prepared (rotated_by working seed q)
unfolding prepared_into over unit
query-lent working seed q out next r t e p f =
    let xs = rotated_by working seed q in
    let n : p ≡ length (prepared xs) = f ∙ sym (length-divided (norm xs) xs ∙ length-rotated working seed q) in
    let into : query r next ≡ query (norm xs) (over (prepared xs) out) = e ∙ rw t in
    let is : next ≡ over (prepared xs) out = ap (λ (s : Prepared). s.out) into in
    rw (sub-zero p, n, is) (take-append_seam (prepared xs) (drop (length (prepared xs)) out))

-- a slot's score by what is lent
pub score-lent : (h : Header) (q : Query) (cs xs : List Float) (first second : Stage) → cs ≡ centroids_of h.bits → xs ≡ prepared (rotated_by h.working_dim h.seed q.vector) →
    judged (slot_score h.bits cs xs first (cond h.residual (some second) none)) ≡ judged (score_of h q (code_in h.residual first second))
unfolding score_by_table
score-lent h q cs xs first second e f = λ j. judged (slot_score h.bits (e j) (f j) first (cond h.residual (some second) none))
