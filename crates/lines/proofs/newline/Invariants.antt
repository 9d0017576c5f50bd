use Rattle.lines.specs.Lines.{NoNewline}
use Rattle.lines.proofs.newline.Given as goal

abbrev pub invariant-loop-i : goal.invariant-loop-i
invariant-loop-i l = NoNewline l.buf l.fn.part.from l.i
