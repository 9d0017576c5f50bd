use Rattle.std.proofs.Common.{rules, ◌≡◌, ◌∙◌, Err, sym}
use Rattle.place.proofs.Calls.{refuse-misfit, refuse-fault, refuse-full, refuse-barred, refuse-none}
use Rattle.place.proofs.check.Goals as goal

pub returns-in_err-check : goal.returns-in_err-check
returns-in_err-check c =
    let k : c.from_residual.result ≡ Err c.in_err-check.field-0.0 = search rules in
    let misfit = c.in_err-check.ensures in
    rw (k, misfit.1) (refuse-misfit _ _ _ _ _ misfit.0)

pub returns-in_err-check-2 : goal.returns-in_err-check-2
returns-in_err-check-2 c =
    let r = c.in_err-check-2.field-0.0 in
    let k : c.from_residual-in_err-check-2.result ≡ Err r = search rules in
    rw k (refuse-fault _ _ _ _ _ c.in_ok-check.ensures r c.in_err-check-2.ensures)

pub returns-then-capacity-slot : goal.returns-then-capacity-slot
returns-then-capacity-slot c = refuse-full _ _ _ _ _ c.in_ok-check.ensures (sym c.in_ok-check-2.ensures) _ c.capacity.ensures c.if-capacity-slot.true

pub returns-then-is_barred : goal.returns-then-is_barred
returns-then-is_barred c =
    refuse-barred _ _ _ _ _ c.in_ok-check.ensures (sym c.in_ok-check-2.ensures) _ c.capacity.ensures c.if-capacity-slot.false (sym c.is_barred.ensures ∙ c.if-is_barred.true)

pub returns : goal.returns
returns c =
    refuse-none _ _ _ _ _ c.in_ok-check.ensures (sym c.in_ok-check-2.ensures) _ c.capacity.ensures c.if-capacity-slot.false (sym c.is_barred.ensures ∙ c.if-is_barred.false)
