use mathlib.Core.Path.{◌≡◌}
use mathlib.Core.Bool.{true}
use Prim.Native.Nat.{◌*◌, min}
use lib.ListN.{length, get_or}
use lib.Ieee.{nan}
use Rattle.marks.specs.Live.{marks_in}
use Rattle.hits.specs.Steps.{EntersSlots}
use Rattle.hits.proofs.enter_orders.Given as goal

-- `hits::enter_orders` meets its contract.
abbrev pub invariant-loop-group : goal.invariant-loop-group
invariant-loop-group l =
    (length l.all ≡ length l.fn.all) × (length l.orders ≡ length l.fn.orders)
    × EntersSlots (λ j. get_or l.fn.all j nan) (marks_in l.marks) (min (l.group * 64) l.n) l.fn.all l.all l.fn.orders l.orders true
