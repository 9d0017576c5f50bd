use Rattle.packing.proofs.Eights.{Eights}
use Rattle.packing.proofs.put_eights_at.Given as goal

-- `packing::put_eights_at` meets its contract. The invariant: the first k eights are in their places (`Eights`).
abbrev pub invariant-loop-k : goal.invariant-loop-k
invariant-loop-k l = Eights l.bits l.codes l.initial.block l.k l.block
