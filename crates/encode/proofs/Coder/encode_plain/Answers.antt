use mathlib.Core.Path.{refl}
use Rattle.encode.proofs.OneStage.{first-places, codes-are, squares-are, block-is, plain-is}
use Rattle.encode.proofs.Coder.encode_plain.Goals as goal

pub returns : goal.returns
returns c =
    let f = c.requires in
    let quantized = c.quantize_summing-sum.ensures in
    let codes = codes-are _ _ _ _ f _ _ (first-places 4096 _ 0 c.requires.most) quantized.codes in
    let sum = squares-are _ _ _ _ f _ _ _ (first-places 4096 _ 0 c.requires.most) quantized.sum in
    plain-is _ _ _ _ _ _ _ _ _ (block-is _ _ _ _ f _ _ _ _ refl codes c.pack.ensures) sum c.sqrt-norm.ensures c.to_bits.ensures
