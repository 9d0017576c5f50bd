use Rattle.std.proofs.Common.{rules, arith, refl, ◌≡◌, ℕ, List, Err}
use Rattle.lists.proofs.Laws.{length-tab}
use Rattle.std.proofs.Math.ListN.{replicate}
use Rattle.std.proofs.lemmas.List.{length-replicate}
use lib.ListN.{length}
use Rattle.marks.specs.Live.{marks_in, no_marks}
use Rattle.marks.proofs.Words.{length-marks}
use Rattle.refusal.proofs.Numbers.{above_0}
use Rattle.refusal.specs.declared.Refusal.TheVariants.{ScoreNan}
use Rattle.search_cascade.proofs.Cascade.{cascade-refused, cascade-listed, cascade-nan}
use Rattle.search_cascade.proofs.search_cascade.Goals as goal

abbrev none : List ℕ
none = no_marks (marks_in (replicate 1024 0))

all-none : length none ≡ 65536
all-none = omega (arith, length-tab {A = ℕ} (λ i. 0) (length (marks_in (replicate 1024 0))), length-marks (replicate 1024 0), length-replicate {A = ℕ} 1024 0)

pub returns-in_err-check : goal.returns-in_err-check
returns-in_err-check c =
    let r = c.in_err-check.field-0.0 in
    let k : c.from_residual.result ≡ Err r = search rules in
    let m = cascade-refused _ _ _ _ _ _ _ c.in_err-check.ensures c.args.slots.now c.args.scores.now (λ z. omega (arith, above_0 r, z)) in
    record { answers = rw k m.0; later_kept = rw k m.1 }

pub returns-in_err-list : goal.returns-in_err-list
returns-in_err-list c =
    let listed = c.list.ensures in
    let k : c.from_residual-in_err-list.result ≡ Err ScoreNan = search rules in
    let m =
    cascade-nan _ _ _ _ _ _ _ c.in_ok-check.ensures _ _ refl none _ all-none _
    c.candidates_wanted-many.ensures c.mark_nearest.ensures _ _ _ listed.answer listed.slots_after listed.scores_after (rw c.in_err-list.was tt) in
    record { answers = rw k m.0; later_kept = rw k m.1 }

pub returns : goal.returns
returns c =
    let listed = c.list.ensures in
    let m =
    cascade-listed _ _ _ _ _ _ _ c.in_ok-check.ensures _ _ refl none _ all-none _
    c.candidates_wanted-many.ensures c.mark_nearest.ensures _ _ _ listed.answer listed.slots_after listed.scores_after _ c.in_ok-list.was in
    record { answers = m.0; later_kept = m.1 }
