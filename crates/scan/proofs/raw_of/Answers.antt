use Rattle.scan.proofs.Steps.{raw-eight, raw-four}
use Rattle.scan.proofs.raw_of.Goals as goal

pub returns-then-bits-eq4 : goal.returns-then-bits-eq4
returns-then-bits-eq4 c = raw-eight _ _ _ _ _ c.if-bits-eq4.true c.part.ensures c.fold_eight.ensures

pub returns : goal.returns
returns c = raw-four _ _ _ _ _ c.if-bits-eq4.false c.part-2.ensures c.fold_four.ensures
