use Rattle.std.proofs.Common.{◌≡◌}
use Rattle.lists.specs.Keep.{count}
use Rattle.lists.specs.Lists.{below}
use Rattle.marks.specs.Live.{marks_in, live_at}
use Rattle.write.specs.Put.{Put}
use Rattle.write.specs.Pieces.{in_order, key_piece}
use Rattle.write.proofs.Writer.put_entries.Given as goal

abbrev pub invariant-loop-i : goal.invariant-loop-i
invariant-loop-i l = record {
  put : Put (in_order (key_piece l.arrays.keys.now l.arrays.keyed.now (marks_in l.arrays.alive.now)) l.i) l.initial.self l.self;
  numbered : l.number ≡ count (live_at (marks_in l.arrays.alive.now)) (below l.i);
}
