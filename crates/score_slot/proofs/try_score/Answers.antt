use Rattle.std.proofs.Common.{arith, refl, sym}
use Rattle.std.proofs.Common.{rules, ◌≡◌, Err}
use Rattle.refusal.proofs.Numbers.{above_0}
use Rattle.index.specs.State.{slot_at}
use Rattle.index.proofs.Calls.{call-misfit}
use Rattle.score_slot.proofs.Query.{width-in, query-rotatable}
use Rattle.score_slot.proofs.Answer.{score-refused, score-past, score-in}
use Rattle.score_slot.proofs.try_score.Goals as goal

pub returns-in_err-check : goal.returns-in_err-check
returns-in_err-check c =
    let k : c.from_residual.result ≡ Err c.in_err-check.field-0.0 = search rules in
    let misfit = c.in_err-check.ensures in
    rw (k, misfit.1) (sym (call-misfit _ _ _ misfit.0))

pub returns-in_err-check-2 : goal.returns-in_err-check-2
returns-in_err-check-2 c =
    let r = c.in_err-check-2.field-0.0 in
    let k : c.from_residual-in_err-check-2.result ≡ Err r = search rules in
    rw k (score-refused _ _ c.in_ok-check.ensures _ _ _ c.in_err-check-2.ensures (λ z. omega (arith, above_0 r, z)))

pub returns-then-index-slot : goal.returns-then-index-slot
returns-then-index-slot c = score-past _ _ c.in_ok-check.ensures _ _ _ c.in_ok-check-2.ensures refl c.if-index-slot.true

pub score_by_width-requires-clause-width : goal.score_by_width-requires-clause-width
score_by_width-requires-clause-width c = width-in _ _ c.in_ok-check.ensures

pub score_by_width-requires-clause-can_rotate : goal.score_by_width-requires-clause-can_rotate
score_by_width-requires-clause-can_rotate c = query-rotatable _ _ c.in_ok-check.ensures _ (sym c.in_ok-check-2.ensures)

pub returns : goal.returns
unfolding slot_at
returns c = score-in _ _ c.in_ok-check.ensures _ _ _ c.in_ok-check-2.ensures refl c.if-index-slot.false _ c.score_by_width.ensures
