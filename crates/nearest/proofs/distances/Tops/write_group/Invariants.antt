use mathlib.Core.Bool.{cond}
use Prim.Native.Nat.{◌+◌}
use lib.ListN.{length}
use Rattle.lists.proofs.Writing.{Written}
use Rattle.marks.specs.Word.{live_in}
use Rattle.codes.specs.Slots.{block_at}
use Rattle.nearest.specs.Distances.{past}
use Rattle.nearest.specs.Lanes.{lanes_apart}
use Rattle.nearest.proofs.distances.Tops.write_group.Given as goal

abbrev pub invariant-loop-k : goal.invariant-loop-k
invariant-loop-k l =
    Written (λ k. cond (live_in l.live k) (lanes_apart l.self.all.now (block_at l.size (l.first + k) l.codes) l.self.lanes) past) (length l.initial.distances) l.k
    l.initial.distances l.distances
