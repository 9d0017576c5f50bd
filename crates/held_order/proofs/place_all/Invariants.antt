use Rattle.held_order.proofs.Positions.{Placing}
use Rattle.held_order.proofs.place_all.Given as goal

abbrev pub invariant-loop-i : goal.invariant-loop-i
invariant-loop-i l = Placing l.before l.initial.held l.held l.i
