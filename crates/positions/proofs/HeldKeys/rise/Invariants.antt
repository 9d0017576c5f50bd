use Rattle.positions.specs.Lent.{keys_of}
use Rattle.positions.proofs.Rising.{Rises}
use Rattle.positions.proofs.HeldKeys.rise.Given as goal

abbrev pub invariant-loop-slot : goal.invariant-loop-slot
invariant-loop-slot l = Rises (keys_of l.self) l.slot l.last
