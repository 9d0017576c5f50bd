use native.Mathlib.Omega.{arith}
use lib.ListN.{length}
use Rattle.hits.proofs.Writing.{slots-reach, part-fits, both-written}
use Rattle.hits.proofs.write_hits.Goals as goal

pub slice_bounds-write_scores-end : goal.slice_bounds-write_scores-end
slice_bounds-write_scores-end c =
    let e = c.choose-n in
    slots-reach c.args.orders.now c.args.k c.args.slots.now c.min-places.result (omega (arith, c.min-places.ensures)) e.result _ e.ensures.value e.ensures.slots_after

pub write_scores-requires : goal.write_scores-requires
write_scores-requires c =
    let e = c.choose-n in
    let m =
    part-fits c.args.orders.now c.args.k c.args.slots.now c.min-places.result (omega (arith, c.min-places.ensures)) e.result _ e.ensures.value e.ensures.slots_after
    (length c.args.all.now) (length c.args.scores.now) c.requires (omega (arith, c.min-places.ensures)) in
    record { slots_within = m.0; room = m.1 }

pub returns : goal.returns
returns c =
    let e = c.choose-n in
    both-written c.args.orders.now c.args.k c.args.slots.now c.min-places.result (omega (arith, c.min-places.ensures)) e.result _ e.ensures.value e.ensures.slots_after
    c.args.all.now c.args.scores.now _ c.min-places.ensures c.write_scores.ensures
