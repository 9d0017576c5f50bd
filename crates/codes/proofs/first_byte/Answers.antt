use native.Mathlib.Omega.{arith}
use Rattle.codes.proofs.Index.{eights}
use Rattle.codes.proofs.first_byte.Goals as goal

pub returns : goal.returns
returns c = omega (arith, eights c.args.bits c.args.i c.requires)
