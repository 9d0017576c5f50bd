use lib.Ieee as Ieee
use lib.Ieee.{binary32, nan}
use Rattle.fwht.proofs.Turns.{Turning}
use Rattle.fwht.proofs.over_columns.Given as goal

-- one more column a turn
abbrev pub invariant-loop-j : goal.invariant-loop-j
invariant-loop-j g l = Turning nan (Ieee.add binary32) (Ieee.sub binary32) g.T.Turn.spans l.h l.j l.initial.v l.v
