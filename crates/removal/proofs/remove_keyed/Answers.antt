use Rattle.std.proofs.Common.{rules, ◌≡◌, Err}
use mathlib.Core.Path.{sym, ◌∙◌}
use Prim.Native.Nat.{◌<◌}
use native.Mathlib.Omega.{arith}
use Rattle.index.proofs.Calls.{call-misfit}
use Rattle.remarking.specs.Live.{with_live}
use Rattle.remarking.proofs.Marked.{room}
use Rattle.removal.proofs.Accepted.{many, remove-no, remove-barred, remove-few, remove-yes}
use Rattle.removal.proofs.remove_keyed.Goals as goal

pub returns-then-many-eq0 : goal.returns-then-many-eq0
returns-then-many-eq0 c =
    sym (remove-no _ _ c.in_ok-check.ensures c.args.key c.args.present (sym c.held_count-many.ensures ∙ c.if-many-eq0.true))

pub remove_slots-requires : goal.remove_slots-requires
remove_slots-requires c =
    let r = room _ _ c.in_ok-check.ensures in
    (r.keyed, r.held, r.alive)

pub overflow_sub-result : goal.overflow_sub-result
overflow_sub-result c =
    let n = c.held_count-many.ensures in
    let some : 0 < many _ _ c.in_ok-check.ensures c.args.key c.args.present = omega (arith, n, c.if-many-eq0.false) in
    omega (arith, n, remove-few _ _ c.in_ok-check.ensures c.args.key c.args.present some (sym c.key_must_stay.ensures ∙ c.if-key_must_stay.false))

pub returns : goal.returns
unfolding with_live
returns c =
    let n = c.held_count-many.ensures in
    let some : 0 < many _ _ c.in_ok-check.ensures c.args.key c.args.present = omega (arith, n, c.if-many-eq0.false) in
    let w = c.remove_slots.ensures in
    rw n (sym (remove-yes _ _ c.in_ok-check.ensures c.args.key c.args.present some (sym c.key_must_stay.ensures ∙ c.if-key_must_stay.false) _ w))

pub returns-in_err-check : goal.returns-in_err-check
returns-in_err-check c =
    let k : c.from_residual.result ≡ Err c.in_err-check.field-0.0 = search rules in
    rw (k, c.in_err-check.ensures.1) (sym (call-misfit _ _ _ c.in_err-check.ensures.0))

pub returns-then-key_must_stay : goal.returns-then-key_must_stay
returns-then-key_must_stay c =
    let n = c.held_count-many.ensures in
    let some : 0 < many _ _ c.in_ok-check.ensures c.args.key c.args.present = omega (arith, n, c.if-many-eq0.false) in
    sym (remove-barred _ _ c.in_ok-check.ensures c.args.key c.args.present some (sym c.key_must_stay.ensures ∙ c.if-key_must_stay.true))
