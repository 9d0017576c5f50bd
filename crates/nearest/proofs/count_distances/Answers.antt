use Prim.Native.Nat.{◌%◌, ◌<◌}
use native.Mathlib.Omega.{arith}
use lib.ListN.{get_or}
use Rattle.lists.proofs.Front.{each_at}
use Rattle.nearest.proofs.Counting.{tallied-none, tallied-more, place-is, place-low}
use Rattle.nearest.proofs.count_distances.Goals as goal

pub loop-slot-init : goal.loop-slot-init
loop-slot-init c = tallied-none _ _ c.requires.zero

pub loop-slot-preserved : goal.loop-slot-preserved
loop-slot-preserved c =
    let m = c.loop-slot in
    let x = get_or c.args.distances.now m.slot 0 in
    let low : x < 12290 = each_at (λ d. d < 12290) c.args.distances.now m.slot 0 c.requires.low c.loop-slot-test.true in
    let room = place-low x (m.slot % 64) low (omega arith) c.requires.room in
    tallied-more m.invariant _ c.loop-slot-test.true room (place-is x (m.slot % 64))
