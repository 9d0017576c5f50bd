use Rattle.std.proofs.Common.{◌*◌, length, drop}
use Rattle.lists.proofs.Writing.{Written}
use Rattle.half.specs.Half.{widened}
use Rattle.index.specs.Read.{little_endian}
use Rattle.read.proofs.read_scales.Given as goal

abbrev pub invariant-loop-i : goal.invariant-loop-i
invariant-loop-i l =
    Written (λ i. widened (little_endian 2 (drop (i * 2) l.bytes)))
    (length l.initial.scale-items) l.i l.initial.scale-items l.scale-items
