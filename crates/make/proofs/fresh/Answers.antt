use Rattle.make.proofs.Making.{fresh-made}
use Rattle.make.proofs.fresh.Goals as goal

pub returns : goal.returns
returns c = fresh-made _ _ _ _ _ c.default_bits.ensures
