use Prim.Native.Nat.{◌≤◌}
use lib.ListN.{length}
use Rattle.positions.specs.Decides.{Decides}
use Rattle.fit.specs.Word.{EachSet}
use Rattle.fit.proofs.each_set.Given as goal

-- `fit::each_set` meets its contract.
abbrev pub invariant-loop-on : goal.invariant-loop-on
invariant-loop-on l = let n = length l.yielded in (n ≤ length l.keyed) × Decides l.all (EachSet l.keyed l.bits n)
