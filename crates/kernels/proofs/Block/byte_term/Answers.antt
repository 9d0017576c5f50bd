use native.Mathlib.Omega.{arith}
use mathlib.Core.Path.{ap, ◌∙◌}
use Prim.Native.Nat.{ℕ, ◌^◌}
use Rattle.score.proofs.Products.{byte-term}
use Rattle.kernels.proofs.Fits.{at-four}
use Rattle.kernels.proofs.Block.byte_term.Goals as goal

pub bounds-self-i : goal.bounds-self-i
bounds-self-i c = omega (arith, at-four _ _ _ c.requires.width c.args.self.now.size)

pub returns : goal.returns
returns c =
    let block = c.args.self.now in
    byte-term _ _ _ _ (block.table ∙ ap (λ (w : ℕ). 2 ^ w) c.requires.width) block.bytes c.requires.inside
