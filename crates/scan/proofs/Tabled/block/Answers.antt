use Rattle.scan.proofs.Steps.{part-is}
use Rattle.scan.proofs.Tabled.block.Goals as goal

pub returns-clause-codes : goal.returns-clause-codes
returns-clause-codes c = part-is _ _ _
