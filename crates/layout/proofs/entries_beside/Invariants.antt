use mathlib.Core.Path.{◌≡◌}
use Rattle.lists.specs.Keep.{count}
use Rattle.lists.specs.Lists.{below}
use Rattle.layout.specs.Counts.{entry_beside}
use Rattle.layout.proofs.entries_beside.Given as goal

-- `layout::entries_beside` meets its contract.
abbrev pub invariant-loop-j : goal.invariant-loop-j
invariant-loop-j l = l.many ≡ count (entry_beside l.keyed l.bits) (below l.j)
