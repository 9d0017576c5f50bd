use mathlib.Core.Path.{◌≡◌}
use Rattle.lists.specs.Keep.{count}
use Rattle.lists.specs.Lists.{below}
use Rattle.layout.specs.Counts.{dated_beside}
use Rattle.layout.proofs.dates_beside.Given as goal

-- `layout::dates_beside` meets its contract.
abbrev pub invariant-loop-j : goal.invariant-loop-j
invariant-loop-j l = l.many ≡ count (dated_beside l.years l.bits) (below l.j)
