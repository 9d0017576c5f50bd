use Rattle.std.proofs.Common.{rules}
use Rattle.layout.proofs.Words.{of-cut}
use Rattle.layout.proofs.of_word.Goals as goal

pub returns : goal.returns
returns g c = of-cut c.args.xs.now c.args.i _ _ c.min-from.ensures (search rules)
