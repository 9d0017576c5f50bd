use native.Mathlib.Omega.{arith}
use Rattle.lloyd.proofs.Quantized.{quantized-le, halved}
use Rattle.quantizer.proofs.halving.Goals as goal

pub loop-left-init : goal.loop-left-init
loop-left-init c =
    record {
      least = omega arith;
      most = omega (arith, quantized-le c.args.boundaries.now c.args.x);
      room = omega arith;
    }

pub loop-left-preserved : goal.loop-left-preserved
loop-left-preserved c =
    let at = c.loop-left in
    halved c.args.boundaries.now c.requires.rises c.args.x at.code at.left c.above-code.result (omega arith) at.invariant c.above-code.ensures
