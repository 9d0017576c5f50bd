use Prim.Native.Nat.{◌≤◌, ◌<◌, ◌-◌, ◌^◌}
use lib.Dec.{ltb}
use Rattle.lists.specs.Keep.{count}
use Rattle.choose_slots.proofs.nth_highest.Given as goal

-- `choose_slots::nth_highest` meets its contract. The invariant: n or more are above `low`, and fewer than n above `high`.
abbrev pub invariant-loop-high : goal.invariant-loop-high
invariant-loop-high l = (l.low < l.high) × (l.high < 2 ^ 32) × (l.n ≤ count (ltb l.low) l.orders) × (count (ltb l.high) l.orders < l.n)

abbrev pub decreases-loop-high : goal.decreases-loop-high
decreases-loop-high l = l.high - l.low
