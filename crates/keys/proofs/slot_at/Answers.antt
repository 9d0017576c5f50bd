use Rattle.std.proofs.Common.{rules, ◌≡◌, Err}
use borrow.Author.Tests.{ltb-true, ltb-false}
use Rattle.held.proofs.Value.{slot-found, slot-missing}
use Rattle.keys.proofs.Questions.{misfits, slot-if}
use Rattle.keys.proofs.slot_at.Goals as goal

pub returns-in_err-check : goal.returns-in_err-check
returns-in_err-check c =
    let k : c.from_residual.result ≡ Err c.in_err-check.field-0.0 = search rules in
    rw (k, c.in_err-check.ensures.1) (misfits _ _ c.in_err-check.ensures.0 _)

pub returns : goal.returns
returns c =
    let e = c.in_ok-check.ensures in
    rw (c.then_some.ensures, c.held_slot-slot.ensures)
    (slot-if _ _ e _ _ _ _ (λ t. slot-found _ _ e _ _ (ltb-true _ _ t)) (λ f. slot-missing _ _ e _ _ (ltb-false _ _ f)))
