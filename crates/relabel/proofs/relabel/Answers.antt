use Rattle.std.proofs.Common.{rules, ◌≡◌, Err}
use mathlib.Core.Path.{sym, ◌∙◌}
use Rattle.index.proofs.Calls.{call-misfit}
use Rattle.remarking.proofs.Marked.{room}
use Rattle.relabel.proofs.Accepted.{relabel-no, relabel-yes}
use Rattle.relabel.proofs.relabel.Goals as goal

pub relabel_slots-requires : goal.relabel_slots-requires
relabel_slots-requires c =
    (room _ _ c.in_ok-check.ensures).keys

pub returns-then-may_relabel : goal.returns-then-may_relabel
returns-then-may_relabel c =
    let t = sym c.may_relabel.ensures ∙ c.if-may_relabel.true in
    sym (relabel-yes _ _ c.in_ok-check.ensures c.args.old c.args.new t _ c.relabel_slots.ensures)

pub returns : goal.returns
returns c =
    sym (relabel-no _ _ c.in_ok-check.ensures c.args.old c.args.new (sym c.may_relabel.ensures ∙ c.if-may_relabel.false))

pub returns-in_err-check : goal.returns-in_err-check
returns-in_err-check c =
    let k : c.from_residual.result ≡ Err c.in_err-check.field-0.0 = search rules in
    rw (k, c.in_err-check.ensures.1) (sym (call-misfit _ _ _ c.in_err-check.ensures.0))
