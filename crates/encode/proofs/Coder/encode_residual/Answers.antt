use Rattle.encode.proofs.Residual.{residual-is}
use Rattle.encode.proofs.Coder.encode_residual.Goals as goal

pub returns : goal.returns
returns c =
    let first = c.store.ensures in
    let rest = c.scale_rest-rms.ensures in
    let second = c.store-2.ensures in
    let scales = c.residual_scales.ensures in
    residual-is _ _ _ _ _ _ _ _ _ _ _ _ _ _ first.values first.block rest.rms rest.rest second.values second.block scales.first scales.second
