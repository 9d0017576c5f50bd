use Rattle.std.proofs.Common.{rules, tests}
use Rattle.kernels.proofs.Fits.{by_length}
use Rattle.kernels.proofs.fitting.Goals as goal

pub returns-then-centroids-bits : goal.returns-then-centroids-bits
returns-then-centroids-bits c = by_length _ _ _ _ _ (search (rules, tests)) (search (rules, tests)) c.if-centroids-bits.true c.bytes_per_vector.ensures
