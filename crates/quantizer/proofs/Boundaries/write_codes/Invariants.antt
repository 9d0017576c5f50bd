use Rattle.quantizer.proofs.Summing.{Coding}
use Rattle.quantizer.proofs.Boundaries.write_codes.Given as goal

-- `Boundaries::write_codes` meets its contract: the codes of the first i values are in their places, and their entries in the sum (`Coding`).
abbrev pub invariant-loop-i : goal.invariant-loop-i
invariant-loop-i l = Coding l.table l.self.all.now l.xs l.initial.codes l.i l.codes l.sum
