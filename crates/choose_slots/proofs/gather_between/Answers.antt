use Prim.Native.Nat.{◌-◌}
use native.Mathlib.Omega.{arith}
use lib.ListN.{length}
use Rattle.choose_slots.specs.Steps.{picked, picked_around}
use Rattle.choose_slots.proofs.Gathering.{gathered-parts, three-runs}
use Rattle.choose_slots.proofs.gather_between.Goals as goal

-- `choose_slots::gather_between` meets its contract: three runs fill all places.
pub gather-a-requires : goal.gather-a-requires
gather-a-requires c =
    omega (arith, gathered-parts c.args.t c.args.start c.args.end c.args.orders.now)

pub gather-b-requires : goal.gather-b-requires
gather-b-requires c =
    omega (arith, gathered-parts c.args.t c.args.start c.args.end c.args.orders.now, c.gather-a.ensures.value, c.gather-a.auto.slots)

pub gather-requires : goal.gather-requires
gather-requires c =
    omega (
      arith,
      c.requires,
      gathered-parts c.args.t c.args.start c.args.end c.args.orders.now,
      c.gather-b.ensures.value,
      c.gather-b.auto.slots,
      c.gather-a.ensures.value,
      c.gather-a.auto.slots,
    )

pub returns : goal.returns
unfolding picked_around
returns c =
    let one = c.gather-a in
    let two = c.gather-b in
    three-runs c.args.slots.now
    (picked c.args.t 0 c.args.start c.args.orders.now)
    (picked (c.args.t - 1) c.args.start c.args.end c.args.orders.now)
    (picked c.args.t c.args.end (length c.args.orders.now) c.args.orders.now)
    c.requires.4 one.ensures.slots_after one.ensures.value two.ensures.slots_after two.ensures.value c.gather.ensures.slots_after
