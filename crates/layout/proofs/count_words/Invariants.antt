use Rattle.std.proofs.Common.{◌≡◌, ◌*◌}
use Rattle.marks.specs.Live.{marks_in}
use Rattle.layout.specs.Counts.{counts_of}
use Rattle.layout.proofs.count_words.Given as goal

-- `layout::count_words` meets its contract.
abbrev pub invariant-loop-i : goal.invariant-loop-i
invariant-loop-i l = l.counts ≡ counts_of l.keyed l.years (marks_in l.alive) (l.i * 64)
