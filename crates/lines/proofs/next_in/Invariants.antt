use Rattle.std.proofs.Common.{length}
use Rattle.lines.specs.Lines.{Within}
use Rattle.lines.proofs.next_in.Given as goal

abbrev pub invariant-loop-left : goal.invariant-loop-left
invariant-loop-left g l = Within (length l.buf) l.part
