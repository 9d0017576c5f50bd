use lib.Dec.{ltb}
use Rattle.choose_slots.proofs.Counting.{Counted}
use Rattle.choose_slots.proofs.count_above.Given as goal

-- n of the order numbers so far are above `low`.
abbrev pub invariant-loop-order : goal.invariant-loop-order
invariant-loop-order l = Counted (ltb l.low) l.orders l.n l.order-index
