use Rattle.std.proofs.Common.{rules, arith, refl, ◌≡◌, Err}
use Rattle.refusal.proofs.Numbers.{above_0}
use Rattle.refusal.specs.declared.Refusal.TheVariants.{ScoreNan}
use Rattle.search.proofs.Slots.{slots-refused, slots-listed, slots-nan}
use Rattle.search.proofs.search.Goals as goal

pub returns-in_err-check_search : goal.returns-in_err-check_search
returns-in_err-check_search c =
    let r = c.in_err-check_search.field-0.0 in
    let k : c.from_residual.result ≡ Err r = search rules in
    let m = slots-refused _ _ _ _ _ _ c.in_err-check_search.ensures c.args.slots.now c.args.scores.now (λ z. omega (arith, above_0 r, z)) in
    record { answers = rw k m.0; later_kept = rw k m.1 }

pub returns-in_err-list : goal.returns-in_err-list
returns-in_err-list c =
    let listed = c.list.ensures in
    let k : c.from_residual-in_err-list.result ≡ Err ScoreNan = search rules in
    let m =
    slots-nan _ _ _ _ _ _ c.in_ok-check_search.ensures _ _ refl _ _ _ listed.answer listed.slots_after listed.scores_after (rw c.in_err-list.was tt) in
    record { answers = rw k m.0; later_kept = rw k m.1 }

pub returns : goal.returns
returns c =
    let listed = c.list.ensures in
    let m =
    slots-listed _ _ _ _ _ _ c.in_ok-check_search.ensures _ _ refl _ _ _ listed.answer listed.slots_after listed.scores_after _ c.in_ok-list.was in
    record { answers = m.0; later_kept = m.1 }
