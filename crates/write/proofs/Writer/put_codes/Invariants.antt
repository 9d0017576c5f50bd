use Rattle.write.specs.Put.{Put}
use Rattle.write.specs.Pieces.{in_order, code_piece}
use Rattle.marks.specs.Live.{marks_in}
use Rattle.write.proofs.Writer.put_codes.Given as goal

abbrev pub invariant-loop-i : goal.invariant-loop-i
invariant-loop-i l = Put (in_order (code_piece l.codes (marks_in l.alive) l.block) l.i) l.initial.self l.self
