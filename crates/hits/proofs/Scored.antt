-- The scores that the scan writes, stage by stage.
use mathlib.Core.Path.{◌≡◌, ap, ap₂, ◌∙◌}
use mathlib.Core.Bool.{Bool, true, false, cond}
use mathlib.Core.List.{List}
use Prim.Native.Nat.{ℕ, ◌≤◌, ◌<◌}
use native.Mathlib.Omega.{arith}
use borrow.Author.Tests.{le-leb}
use lib.ListN.{length, drop, get_or}
use lib.Seq.{drop_at}
use lib.Ieee.{Float, nan}
use Rattle.pattern.specs.Binary32.{◌⊕◌}
use Rattle.lists.specs.Lists.{tab, over}
use Rattle.lists.proofs.Laws.{length-tab, get_or-tab, length_over}
use Rattle.lists.proofs.Front.{get_d_front}
use Rattle.encode.specs.declared.Header.{Header}
use Rattle.encode.specs.Header.{block_size}
use Rattle.score.specs.Score.{stage_score, slot_score}
use Rattle.index.specs.State.{stage_at}
use Rattle.marks.specs.Live.{live_at}
use Rattle.scan.specs.Scan.{stage_of, score_after, score_now, scanned}
use Rattle.hits.specs.Steps.{score_prepared, Scores}

-- ---- what the scan leaves

module _ (score : ℕ → Float) (marks : List ℕ) (second : Bool) (n : ℕ) (all : List Float) (fits : n ≤ length all) where
  abbrev entries : List Float
  entries = tab (λ i. score_now score marks second i (get_or all i nan)) n

  scanned-is : scanned score marks second n all ≡ over entries all
  unfolding scanned
  scanned-is = rw (le-leb n (length all) fits)

  pub length-scanned : length (scanned score marks second n all) ≡ length all
  length-scanned = rw scanned-is (length_over entries all (rw (length-tab (λ i. score_now score marks second i (get_or all i nan)) n) fits))

  pub scanned-rest : drop n (scanned score marks second n all) ≡ drop n all
  unfolding over
  scanned-rest =
      let long : length entries ≡ n = length-tab (λ i. score_now score marks second i (get_or all i nan)) n in
      rw (scanned-is, drop_at entries (drop (length entries) all) n long, long)

  pub scanned-at : (i : ℕ) → i < n → live_at marks i ≡ true → get_or (scanned score marks second n all) i nan ≡ cond second (get_or all i nan ⊕ score i) (score i)
  unfolding score_after
  scanned-at i l m =
      let long : length entries ≡ n = length-tab (λ i. score_now score marks second i (get_or all i nan)) n in
      rw (scanned-is, get_d_front entries all i nan (rw long l), get_or-tab (λ i. score_now score marks second i (get_or all i nan)) n i nan l, m)

-- ---- one stage, or two

module _ (h : Header) (codes scales codes2 scales2 : List ℕ) (cs q : List Float) (size : ℕ) (is : size ≡ block_size h) (marks : List ℕ) (n : ℕ) (all next : List Float) (fits : n ≤ length all)
    (first : next ≡ scanned (stage_of h.bits cs q size codes scales) marks false n all) where
  stage_is : (codes scales : List ℕ) (i : ℕ) → stage_of h.bits cs q size codes scales i ≡ stage_score h.bits cs q (stage_at h scales codes i)
  unfolding stage_of
  stage_is codes scales i = rw is

  at_first : (i : ℕ) → i < n → live_at marks i ≡ true → get_or next i nan ≡ stage_score h.bits cs q (stage_at h scales codes i)
  at_first i l m =
      ap (λ (xs : List Float). get_or xs i nan) first ∙ scanned-at (stage_of h.bits cs q size codes scales) marks false n all fits i l m ∙ stage_is codes scales i

  first-length : length next ≡ length all
  first-length = ap length first ∙ length-scanned (stage_of h.bits cs q size codes scales) marks false n all fits

  first_rest : drop n next ≡ drop n all
  first_rest = ap (drop n) first ∙ scanned-rest (stage_of h.bits cs q size codes scales) marks false n all fits

  pub one-stage : h.residual ≡ false → Scores (score_prepared h codes scales codes2 scales2 cs q) marks n all next
  unfolding score_prepared slot_score
  one-stage e =
      record { same = first-length; there = λ i l m. rw e (at_first i l m); rest = first_rest }

  pub two-stages : (last : List Float) → h.residual ≡ true → last ≡ scanned (stage_of h.bits cs q size codes2 scales2) marks true n next
      → Scores (score_prepared h codes scales codes2 scales2 cs q) marks n all last
  unfolding score_prepared slot_score
  two-stages last e second =
      let room : n ≤ length next = omega (arith, first-length) in
      record {
        same = ap length second ∙ length-scanned (stage_of h.bits cs q size codes2 scales2) marks true n next room ∙ first-length;
        there =
            λ i l m. rw e
            (ap (λ (xs : List Float). get_or xs i nan) second ∙ scanned-at (stage_of h.bits cs q size codes2 scales2) marks true n next room i l m
            ∙ ap₂ ◌⊕◌ (at_first i l m) (stage_is codes2 scales2 i));
        rest = ap (drop n) second ∙ scanned-rest (stage_of h.bits cs q size codes2 scales2) marks true n next room ∙ first_rest;
      }
