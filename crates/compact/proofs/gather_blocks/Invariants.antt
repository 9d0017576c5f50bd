use Rattle.std.proofs.Common.{◌≡◌}
use Rattle.compact.specs.Gathered.{gathered_blocks}
use Rattle.compact.proofs.gather_blocks.Given as goal

abbrev pub invariant-loop-i : goal.invariant-loop-i
invariant-loop-i l = l.codes ≡ gathered_blocks l.slots l.i l.size l.initial.codes
