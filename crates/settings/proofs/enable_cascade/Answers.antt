use Rattle.std.proofs.Common.{rules, ◌≡◌, Err, sym}
use Rattle.index.proofs.Calls.{call-misfit}
use Rattle.settings.proofs.Setting.{enable-11, enabled}
use Rattle.settings.proofs.enable_cascade.Goals as goal

pub returns-in_err-check : goal.returns-in_err-check
returns-in_err-check c =
    let k : c.from_residual.result ≡ Err c.in_err-check.field-0.0 = search rules in
    let misfit = c.in_err-check.ensures in
    rw (k, misfit.1) (sym (call-misfit _ _ _ misfit.0))

pub returns-then-index-ne4 : goal.returns-then-index-ne4
returns-then-index-ne4 c = sym (enable-11 _ _ c.in_ok-check.ensures c.if-index-ne4.true)

pub returns : goal.returns
returns c = sym (enabled _ _ c.in_ok-check.ensures c.if-index-ne4.false)
