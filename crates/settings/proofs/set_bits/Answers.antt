use Rattle.std.proofs.Common.{rules, tests, ◌≡◌, Err, arith, sym}
use Rattle.index.proofs.Calls.{call-misfit}
use Rattle.settings.proofs.Setting.{width-5, width-6, width-7, width-set}
use Rattle.settings.proofs.set_bits.Goals as goal

pub returns-in_err-check : goal.returns-in_err-check
returns-in_err-check c =
    let k : c.from_residual.result ≡ Err c.in_err-check.field-0.0 = search rules in
    let misfit = c.in_err-check.ensures in
    rw (k, misfit.1) (sym (call-misfit _ _ _ misfit.0))

pub returns-then-not-contains : goal.returns-then-not-contains
returns-then-not-contains c = sym (width-5 _ _ c.in_ok-check.ensures _ (search (rules, tests)))

pub returns-then-index-gt0 : goal.returns-then-index-gt0
returns-then-index-gt0 c = sym (width-6 _ _ c.in_ok-check.ensures _ (search (rules, tests)) c.if-index-gt0.true)

pub returns-then-index-bits : goal.returns-then-index-bits
returns-then-index-bits c = sym (width-7 _ _ c.in_ok-check.ensures _ (search (rules, tests)) (omega arith) c.if-index-bits.true)

pub returns : goal.returns
returns c = sym (width-set _ _ c.in_ok-check.ensures _ (search (rules, tests)) (omega arith) c.if-index-bits.false)
