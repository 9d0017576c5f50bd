use mathlib.Core.Path.{refl}
use Rattle.encode.proofs.OneStage.{first-places, codes-are, block-is, values-are}
use Rattle.encode.proofs.Coder.store.Goals as goal

pub returns-clause-values : goal.returns-clause-values
returns-clause-values c =
    let codes = codes-are _ _ _ _ c.requires.codable _ _ (first-places 4096 _ 0 c.requires.codable.most) c.quantize_summing.ensures.codes in
    values-are _ _ _ _ _ codes c.decode.ensures

pub returns-clause-block : goal.returns-clause-block
returns-clause-block c =
    let codes = codes-are _ _ _ _ c.requires.codable _ _ (first-places 4096 _ 0 c.requires.codable.most) c.quantize_summing.ensures.codes in
    block-is _ _ _ _ c.requires.codable _ _ _ _ refl codes c.pack.ensures
