use Rattle.conversion.proofs.Narrowing.{Done}
use Rattle.conversion.proofs.narrow_scales.Given as goal

abbrev pub invariant-loop-i : goal.invariant-loop-i
invariant-loop-i l = Done l.scales l.initial.halves l.i l.changed l.halves
