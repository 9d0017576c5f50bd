use Prim.Native.Nat.{◌<◌}
use native.Mathlib.Omega.{arith}
use lib.ListN.{length}
use Rattle.lists.proofs.Bits.{one_at_most}
use Rattle.choose_slots.proofs.Counting.{counted-more, counted-below}
use Rattle.choose_slots.proofs.slot_after.Goals as goal

pub loop-seen-preserved : goal.loop-seen-preserved
loop-seen-preserved c =
    let here : c.loop-seen.i < length c.args.orders.now = counted-below c.loop-seen.invariant.0 (omega arith) in
    (rw c.is_between.ensures (counted-more c.loop-seen.invariant.0 (here)), omega (arith, one_at_most c.is_between.result))
