use Rattle.std.proofs.Common.{rules, ◌≡◌, Err, sym}
use Rattle.index.specs.Step as Step
use Rattle.index.proofs.Calls.{call-misfit}
use Rattle.compact.proofs.compact.Goals as goal

pub returns-in_err-check-clause-answers : goal.returns-in_err-check-clause-answers
returns-in_err-check-clause-answers c =
    let k : c.from_residual.result ≡ Err c.in_err-check.field-0.0 = search rules in
    let misfit = rw c.view.ensures at c.in_err-check.ensures in
    rw (k, misfit.1) (sym (call-misfit _ _ Step.compact misfit.0))
