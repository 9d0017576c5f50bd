use Rattle.scan.proofs.Raws.{raw-bytes, raw-wide}
use Rattle.scan.proofs.Tabled.sum_group.Goals as goal

pub returns-then-self-eq4 : goal.returns-then-self-eq4
returns-then-self-eq4 c = raw-bytes _ _ _ _ _ _ _ _ _ _ _ c.if-self-eq4.true c.sum_bytes.ensures

pub returns-else-self-eq4 : goal.returns-else-self-eq4
returns-else-self-eq4 c = raw-wide _ _ _ _ _ _ _ _ _ _ _ c.if-self-eq4.false c.sum_wide.ensures
