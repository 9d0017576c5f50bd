use native.Mathlib.Omega.{arith}
use Rattle.score.proofs.Products.{in_table, product-read}
use Rattle.kernels.proofs.Block.product.Goals as goal

pub bounds-self-code : goal.bounds-self-code
bounds-self-code c =
    let block = c.args.self.now in in_table _ _ _ _ (omega (arith, block.from)) (omega (arith, block.to)) c.unpack_code-code.ensures _ block.table

pub returns : goal.returns
returns c =
    let block = c.args.self.now in product-read _ _ _ _ (omega (arith, block.from)) (omega (arith, block.to)) c.unpack_code-code.ensures _ _ block.table c.requires
