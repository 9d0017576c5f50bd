use Rattle.std.proofs.Common.{length}
use Rattle.lists.proofs.Writing.{Written}
use Rattle.index.specs.Read.{year_in}
use Rattle.read.proofs.File.read_years.Given as goal

abbrev pub invariant-loop-i : goal.invariant-loop-i
invariant-loop-i l = Written (year_in l.self.bytes.now) (length l.initial.year-items) l.i l.initial.year-items l.year-items
