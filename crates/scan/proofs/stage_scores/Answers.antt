use Rattle.scan.proofs.Entries.{scanned-all, scanned-none}
use Rattle.scan.proofs.stage_scores.Goals as goal

pub returns-then-all-n : goal.returns-then-all-n
returns-then-all-n c = scanned-none _ _ _ _ _ c.if-all-n.true

pub returns : goal.returns
returns c = scanned-all _ _ _ _ _ _ c.if-all-n.false c.scan.ensures
