use mathlib.Core.Path.{◌≡◌, sym, subst}
use lib.Dec.{T}
use lib.Ieee.{Float}
use Rattle.sqrt.specs.Root.{square_root, SquareRoot}
use Rattle.sqrt.proofs.Floats.{square-root}
use Rattle.sqrt.proofs.sqrt.Goals as goal

pub returns : goal.returns
unfolding square_root
returns c =
    let is-root : c.from_bits.result ≡ square_root c.args.x = cc in
    let x = c.args.x in
    subst (λ (y : Float). SquareRoot x y) (sym is-root) (square-root x (subst T (sym c.well_formed.0.1) tt))
