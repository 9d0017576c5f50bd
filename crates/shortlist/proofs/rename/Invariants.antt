use mathlib.Core.Path.{◌≡◌}
use mathlib.Core.List.{List, map}
use Prim.Native.Nat.{ℕ}
use lib.ListN.{get_or}
use Rattle.lists.proofs.Laws.{begun}
use Rattle.shortlist.proofs.rename.Given as goal

abbrev pub renamed : List ℕ → List ℕ → List ℕ
renamed names slots = map (λ i. get_or names i 0) slots

-- The places so far are renamed.
abbrev pub invariant-loop-slot : goal.invariant-loop-slot
invariant-loop-slot l = l.slots ≡ begun (renamed l.names l.initial.slots) l.initial.slots l.slot-index
