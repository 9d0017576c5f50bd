use native.Mathlib.Omega.{arith}
use Rattle.marks.proofs.Words.{length-marks}
use Rattle.marks.proofs.places.Goals as goal

pub returns : goal.returns
returns c = omega (arith, length-marks c.args.alive.now, c.min.ensures)
