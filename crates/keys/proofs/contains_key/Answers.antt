use Rattle.std.proofs.Common.{rules, ◌≡◌, Err}
use mathlib.Core.Path.{sym, ap, ◌∙◌}
use lib.Dec.{ltb}
use Rattle.held.proofs.Value.{is-held}
use Rattle.keys.proofs.Questions.{misfits, held-asked}
use Rattle.keys.proofs.contains_key.Goals as goal

pub returns-in_err-check : goal.returns-in_err-check
returns-in_err-check c =
    let k : c.from_residual.result ≡ Err c.in_err-check.field-0.0 = search rules in
    rw (k, c.in_err-check.ensures.1) (misfits _ _ c.in_err-check.ensures.0 _)

pub returns : goal.returns
returns c =
    let e = c.in_ok-check.ensures in
    held-asked _ _ e _ _ (is-held _ _ e _ ∙ ap (ltb 0) (sym c.held_count.ensures))
