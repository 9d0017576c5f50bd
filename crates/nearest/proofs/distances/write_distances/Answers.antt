use native.Mathlib.Omega.{arith}
use lib.ListN.{length-replicate}
use Prim.Native.Nat.{ℕ}
use Rattle.nearest.proofs.Pairs.{split-tops}
use Rattle.nearest.proofs.distances.write_distances.Goals as goal

pub invariant_of-split : goal.invariant_of-split
invariant_of-split c =
    let room = length-replicate {A = ℕ} 2048 0 in
    record {
      few = c.requires.0;
      room = c.requires.1;
      low = c.requires.2;
      split =
          split-tops _ _ _ _ _ _ c.requires.2 (omega (arith, c.requires.0, room, c.every_second.auto)) (omega (arith, c.requires.0, room, c.every_second-2.auto))
          c.every_second.ensures c.every_second-2.ensures;
    }
