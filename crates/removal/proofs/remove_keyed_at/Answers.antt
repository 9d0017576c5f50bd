use Rattle.std.proofs.Common.{rules, ◌≡◌, Err}
use mathlib.Core.Path.{sym, ◌∙◌}
use native.Mathlib.Omega.{arith}
use Rattle.index.proofs.Calls.{call-misfit}
use Rattle.remarking.specs.Live.{with_live}
use Rattle.removal.proofs.Accepted.{at-no, at_some, at_room, at-barred, at-few, at-yes}
use Rattle.removal.proofs.remove_keyed_at.Goals as goal

pub last_slot-last-requires : goal.last_slot-last-requires
last_slot-last-requires c =
    let t = sym c.in_use.ensures ∙ c.if-in_use.true in
    at_some _ _ c.in_ok-check.ensures c.args.key c.args.slot c.args.present t

pub remove_one-requires : goal.remove_one-requires
remove_one-requires c =
    let t = sym c.in_use.ensures ∙ c.if-in_use.true in
    rw c.last_slot-last.ensures (at_room _ _ c.in_ok-check.ensures c.args.key c.args.slot c.args.present t)

pub overflow_sub-result : goal.overflow_sub-result
overflow_sub-result c =
    let t = sym c.in_use.ensures ∙ c.if-in_use.true in
    omega (arith, at-few _ _ c.in_ok-check.ensures c.args.key c.args.slot c.args.present t (sym c.must_stay.ensures ∙ c.if-must_stay.false))

pub returns-then-in_use : goal.returns-then-in_use
unfolding with_live
returns-then-in_use c =
    let t = sym c.in_use.ensures ∙ c.if-in_use.true in
    let w = rw c.last_slot-last.ensures at c.remove_one.ensures in
    sym (at-yes _ _ c.in_ok-check.ensures c.args.key c.args.slot c.args.present t (sym c.must_stay.ensures ∙ c.if-must_stay.false) _ w)

pub returns : goal.returns
returns c =
    sym (at-no _ _ c.in_ok-check.ensures c.args.key c.args.slot c.args.present (sym c.in_use.ensures ∙ c.if-in_use.false))

pub returns-in_err-check : goal.returns-in_err-check
returns-in_err-check c =
    let k : c.from_residual.result ≡ Err c.in_err-check.field-0.0 = search rules in
    rw (k, c.in_err-check.ensures.1) (sym (call-misfit _ _ _ c.in_err-check.ensures.0))

pub returns-then-must_stay : goal.returns-then-must_stay
returns-then-must_stay c =
    let t = sym c.in_use.ensures ∙ c.if-in_use.true in
    sym (at-barred _ _ c.in_ok-check.ensures c.args.key c.args.slot c.args.present t (sym c.must_stay.ensures ∙ c.if-must_stay.true))
