use mathlib.Core.Path.{◌≡◌}
use mathlib.Core.List.{List}
use mathlib.Core.Bool.{true}
use Prim.Native.Nat.{ℕ, ◌≤◌}
use lib.ListN.{length, get_or}
use lib.Ieee.{nan}
use Rattle.marks.specs.Word.{Lives}
use Rattle.hits.specs.Steps.{EntersFrom}
use Rattle.hits.proofs.enter_group.Given as goal

-- `hits::enter_group` meets its contract.
abbrev pub invariant-loop-k : goal.invariant-loop-k
invariant-loop-k l =
    (l.k ≤ l.many) × (length l.all ≡ length l.fn.all) × (length l.orders ≡ length l.fn.orders)
    × ((marks : List ℕ) → Lives marks l.first l.word → EntersFrom (λ j. get_or l.fn.all j nan) marks l.first l.k l.fn.all l.all l.fn.orders l.orders true)
