use Rattle.std.proofs.Common.{length}
use Rattle.lists.proofs.Writing.{Written}
use Rattle.relabel.proofs.Loops.{key_after}
use Rattle.relabel.proofs.relabel_slots.Given as goal

-- slots before i have their new key
abbrev pub invariant-loop-i : goal.invariant-loop-i
invariant-loop-i l = Written (key_after l.fn.keys l.keyed l.old l.new) (length l.initial.key-items) l.i l.initial.key-items l.key-items
