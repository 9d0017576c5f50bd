use Rattle.std.proofs.Common.{rules, ◌≡◌, Err}
use Rattle.place.proofs.Calls.{codable, few-slots, few-live}
use Rattle.place.proofs.Keyed.{refused-call, ok, markable, accepted-call}
use Rattle.place.proofs.put.Goals as goal

pub returns-in_err-check-clause-answers : goal.returns-in_err-check-clause-answers
returns-in_err-check-clause-answers c =
    let r = c.in_err-check.field-0.0 in
    let k : c.from_residual.result ≡ Err r = search rules in
    rw k (refused-call _ _ _ _ _ _ c.view-view.ensures _ c.spot_of-spot.ensures r c.in_err-check.ensures)

pub put_code-requires : goal.put_code-requires
put_code-requires c = codable _ _ _ _ (ok _ _ _ c.args.year _ _ c.view-view.ensures _ c.spot_of-spot.ensures c.in_ok-check.ensures)

pub put_mark-requires : goal.put_mark-requires
put_mark-requires c = rw c.put_code.ensures.code (markable _ _ _ c.args.year _ _ c.view-view.ensures _ c.spot_of-spot.ensures c.in_ok-check.ensures _)

pub after_add-requires : goal.after_add-requires
after_add-requires c =
    let accepted = ok _ _ _ c.args.year _ _ c.view-view.ensures _ c.spot_of-spot.ensures c.in_ok-check.ensures in
    (few-slots _ _ _ _ accepted, few-live _ _ _ _ accepted)

pub returns-clause-answers : goal.returns-clause-answers
returns-clause-answers c =
    accepted-call _ _ _ _ _ _ c.view-view.ensures _ c.spot_of-spot.ensures c.in_ok-check.ensures _ _ c.put_code.ensures.code c.put_mark.ensures.mark _
    c.after_add.ensures
