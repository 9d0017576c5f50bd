use Prim.Native.Nat.{◌-◌}
use lib.Ieee as Ieee
use lib.Ieee.{binary32, nan}
use lib.ListN.{length}
use Rattle.fwht.proofs.Walks.{Walked}
use Rattle.fwht.proofs.over_blocks.Given as goal

-- one more block a turn
abbrev pub invariant-loop-i : goal.invariant-loop-i
invariant-loop-i g l = Walked nan (Ieee.add binary32) (Ieee.sub binary32) g.T.Turn.spans l.h l.i l.initial.v l.v

abbrev pub decreases-loop-i : goal.decreases-loop-i
decreases-loop-i g l = length l.initial.v - l.i
