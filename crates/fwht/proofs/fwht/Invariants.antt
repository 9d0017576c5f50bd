use Prim.Native.Nat.{◌-◌}
use Rattle.fwht.specs.Binary32.{Spanned32}
use Rattle.fwht.proofs.fwht.Given as goal

-- two more passes a turn
abbrev pub invariant-loop-h : goal.invariant-loop-h
invariant-loop-h l = Spanned32 l.fn.v l.v l.h

abbrev pub decreases-loop-h : goal.decreases-loop-h
decreases-loop-h l = l.n - l.h
