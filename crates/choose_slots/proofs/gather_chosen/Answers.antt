use native.Mathlib.Omega.{arith}
use lib.Dec.{ltb}
use Rattle.lists.proofs.Keep.{count-length}
use Rattle.choose_slots.proofs.Listing.{t-positive, end-there, start-there, before, gathered-length, is-listed}
use Rattle.choose_slots.proofs.gather_chosen.Goals as goal

pub overflow_cast-n : goal.overflow_cast-n
overflow_cast-n c = omega (arith, count-length (ltb 0) c.args.orders.now)

pub overflow_sub-t : goal.overflow_sub-t
overflow_sub-t c = t-positive c.args.orders.now _ _ c.requires.1 c.requires.2 c.nth_highest-t.ensures

pub slot_after-end-requires : goal.slot_after-end-requires
slot_after-end-requires c = end-there c.args.orders.now _ _ c.requires.1 c.requires.2 c.nth_highest-t.ensures c.type_inv.orders

pub overflow_sub-t-2 : goal.overflow_sub-t-2
overflow_sub-t-2 c = t-positive c.args.orders.now _ _ c.requires.1 c.requires.2 c.nth_highest-t.ensures

pub slot_after-start-requires : goal.slot_after-start-requires
slot_after-start-requires c =
    start-there c.args.orders.now _ _ c.requires.1 c.requires.2 c.nth_highest-t.ensures c.type_inv.orders c.slot_after-end.result c.slot_after-end.ensures.1 _ c.count_above-displaced.ensures

pub gather_between-requires : goal.gather_between-requires
gather_between-requires c = (
  t-positive c.args.orders.now _ _ c.requires.1 c.requires.2 c.nth_highest-t.ensures,
  before c.args.orders.now _ _ c.requires.1 c.requires.2 c.nth_highest-t.ensures c.type_inv.orders c.slot_after-end.result c.slot_after-end.ensures.1 _ c.count_above-displaced.ensures _ c.slot_after-start.ensures,
  omega arith,
  c.requires.0,
  gathered-length c.args.orders.now _ _ c.requires.1 c.requires.2 c.nth_highest-t.ensures c.type_inv.orders c.slot_after-end.result c.slot_after-end.ensures.1 _ c.count_above-displaced.ensures _ c.slot_after-start.ensures,
)

pub returns : goal.returns
returns c =
    rw c.gather_between.ensures
    (is-listed c.args.orders.now _ _ c.requires.1 c.requires.2 c.nth_highest-t.ensures c.type_inv.orders c.slot_after-end.result c.slot_after-end.ensures.1 _ c.count_above-displaced.ensures _ c.slot_after-start.ensures)
