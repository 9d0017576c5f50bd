use Rattle.lloyd.specs.Tables.{levels_of}
use Rattle.lloyd.proofs.levels.Goals as goal

pub returns : goal.returns
unfolding levels_of
returns c = c.by_width.ensures
