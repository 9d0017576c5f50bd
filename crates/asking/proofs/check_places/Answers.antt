use Rattle.std.proofs.Common.{rules, arith, ◌≡◌, Err}
use Rattle.asking.proofs.Faults.{places-misfit, places-short, places-enough}
use Rattle.asking.proofs.check_places.Goals as goal

pub returns-in_err-check : goal.returns-in_err-check
returns-in_err-check c =
    let k : c.from_residual.result ≡ Err c.in_err-check.field-0.0 = search rules in
    let misfit = c.in_err-check.ensures in
    rw (k, misfit.1) (places-misfit _ _ _ _ misfit.0)

pub returns-then-min-places_needed : goal.returns-then-min-places_needed
returns-then-min-places_needed c = places-short _ _ _ _ c.in_ok-check.ensures (omega arith)

pub returns : goal.returns
returns c = places-enough _ _ _ _ c.in_ok-check.ensures (omega arith)
