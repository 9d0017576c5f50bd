use Rattle.fwht.proofs.Turns.{turning-all}
use Rattle.fwht.proofs.over_columns.Goals as goal

pub returns : goal.returns
returns g c = turning-all _ _ _ _ _ _ _ _ c.loop-j.invariant c.loop-j-test.false c.requires
