use mathlib.Core.Path.{◌≡◌}
use lib.ListN.{length}
use Rattle.marks.proofs.Words.{Spread_below}
use Rattle.marks.proofs.spread.Given as goal

-- `marks::spread` meets its contract.
abbrev pub invariant-loop-j : goal.invariant-loop-j
invariant-loop-j l = (length l.mark-items ≡ 64) × Spread_below l.word l.j l.mark-items
