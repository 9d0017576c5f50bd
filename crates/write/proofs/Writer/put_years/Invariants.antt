use Rattle.write.specs.Put.{Put}
use Rattle.write.specs.Pieces.{in_order, year_piece}
use Rattle.marks.specs.Live.{marks_in}
use Rattle.write.proofs.Writer.put_years.Given as goal

abbrev pub invariant-loop-i : goal.invariant-loop-i
invariant-loop-i l = Put (in_order (year_piece l.years (marks_in l.alive)) l.i) l.initial.self l.self
