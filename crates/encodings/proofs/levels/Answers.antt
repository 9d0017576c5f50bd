use native.Mathlib.Omega.{arith}
use Rattle.lloyd.proofs.Widths.{levels-le}
use Rattle.encodings.proofs.levels.Goals as goal

pub returns : goal.returns
returns c = (omega arith, omega (arith, levels-le c.args.width))
