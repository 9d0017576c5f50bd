use Rattle.std.proofs.Common.{◌≡◌}
use Rattle.compact.specs.Gathered.{gathered}
use Rattle.compact.proofs.gather.Given as goal

abbrev pub invariant-loop-i : goal.invariant-loop-i
invariant-loop-i g l = (d : _) → l.xs ≡ gathered l.slots l.i d l.initial.xs
