use Rattle.std.proofs.Common.{rules, arith, ◌≡◌, Err, sym, ◌∙◌}
use Rattle.refusal.proofs.Numbers.{above_0}
use Rattle.read.proofs.Limits.{room-is}
use Rattle.read.proofs.Faults.{fault-head, fault-limits, fault-room, fault-body}
use Rattle.read.proofs.Filled.{record-count}
use Rattle.read.proofs.check.Goals as goal

pub returns-in_err-check : goal.returns-in_err-check
returns-in_err-check c =
    let r = c.in_err-check.field-0.0 in
    let k : c.from_residual.result ≡ Err r = search rules in
    let given = c.in_err-check.ensures in
    rw k (given ∙ fault-head c.args.file.now _ (λ e. omega (arith, above_0 r, given ∙ e)))

pub returns-then-over_limits : goal.returns-then-over_limits
returns-then-over_limits c = fault-limits _ _ (sym c.in_ok-check.ensures) (sym c.over_limits.ensures ∙ c.if-over_limits.true)

pub returns-then-room-index : goal.returns-then-room-index
returns-then-room-index c =
    let f = c.args.file.now in
    let sound = sym c.in_ok-check.ensures in
    let e = c.index_in-index.ensures in
    fault-room f _ sound (sym c.over_limits.ensures ∙ c.if-over_limits.false)
    (omega (arith, room-is f sound _ _ _ e c.capacity-room.ensures, record-count f _ e))

pub returns : goal.returns
returns c =
    let f = c.args.file.now in
    let sound = sym c.in_ok-check.ensures in
    let e = c.index_in-index.ensures in
    (rw c.file_in.ensures at c.check-2.ensures)
    ∙ fault-body f _ sound (sym c.over_limits.ensures ∙ c.if-over_limits.false)
    (omega (arith, room-is f sound _ _ _ e c.capacity-room.ensures, record-count f _ e))
