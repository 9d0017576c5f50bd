use Rattle.encode.proofs.Residual.{scaled-is}
use Rattle.encode.proofs.scale_rest.Goals as goal

pub returns-clause-rest : goal.returns-clause-rest
returns-clause-rest c = (scaled-is _ _ _ _ c.subtract.ensures c.root_mean_square-rms.ensures c.divide.ensures).1
