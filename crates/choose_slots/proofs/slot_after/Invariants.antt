use Prim.Native.Nat.{◌≤◌, ◌-◌}
use lib.ListN.{length}
use Rattle.choose_slots.specs.Steps.{in_range}
use Rattle.choose_slots.proofs.Counting.{Counted}
use Rattle.choose_slots.proofs.slot_after.Given as goal

-- `choose_slots::slot_after` meets its contract. The invariant: `seen` of the order numbers before i are between `low` and `high`, and at most n.
abbrev pub invariant-loop-seen : goal.invariant-loop-seen
invariant-loop-seen l = Counted (in_range l.low l.high) l.orders l.seen l.i × (l.seen ≤ l.n)

abbrev pub decreases-loop-seen : goal.decreases-loop-seen
decreases-loop-seen l = length l.orders - l.i
