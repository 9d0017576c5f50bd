use Rattle.std.proofs.Common.{rules}
use Rattle.lloyd.proofs.Quantized.{quantized-count}
use Rattle.counting.proofs.quantize_in.Goals as goal

pub returns : goal.returns
returns c = rw (quantized-count c.args.boundaries.now c.args.x) (search rules)
