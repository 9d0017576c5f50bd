use native.Mathlib.Omega.{arith}
use Rattle.scan.proofs.Sizes.{levels-of}
use Rattle.scan.proofs.Tables.{paired-next}
use Rattle.scan.proofs.fill_pairs.Goals as goal

pub loop-x-preserved : goal.loop-x-preserved
loop-x-preserved c =
    let levels = levels-of c.args.bits c.requires.0 in
    paired-next _ _ _ _ _ levels.is c.loop-x.invariant (omega (arith, levels.square))
