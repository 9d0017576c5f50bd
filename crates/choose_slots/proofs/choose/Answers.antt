use native.Mathlib.Omega.{arith}
use Rattle.choose_slots.proofs.Listed.{too_many, none-written, all-written}
use Rattle.choose_slots.proofs.choose.Goals as goal

pub returns-then-orders-gt65536 : goal.returns-then-orders-gt65536
returns-then-orders-gt65536 c =
    let r = too_many c.args.orders.now c.args.k c.args.slots.now c.if-orders-gt65536.true in
    record { value = r.0; slots_after = r.1 }

pub returns-then-n-eq0 : goal.returns-then-n-eq0
returns-then-n-eq0 c =
    let r = none-written c.args.orders.now c.args.k c.args.slots.now c.min-n.result (rw (c.max.ensures, c.count_above-live.ensures) at c.min-n.ensures) c.then-n-eq0.either in
    record { value = r.0; slots_after = r.1 }

pub returns : goal.returns
returns c =
    let r = all-written c.args.orders.now c.args.k c.args.slots.now c.min-n.result (rw (c.max.ensures, c.count_above-live.ensures) at c.min-n.ensures) (omega arith) (omega arith) c.list.ensures in
    record { value = r.0; slots_after = r.1 }
