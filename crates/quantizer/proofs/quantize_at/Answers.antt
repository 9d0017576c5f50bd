use mathlib.Core.Path.{◌≡◌, ap, ◌∙◌, subst⁻¹}
use mathlib.Core.List.{List}
use Prim.Native.Nat.{◌-◌, ◌<◌}
use native.Mathlib.Omega.{arith}
use lib.ListN.{take}
use lib.Ieee.{Float}
use Rattle.lloyd.specs.Tables.{levels_of, boundaries_of}
use Rattle.lloyd.specs.Quantizer.{quantized}
use Rattle.lloyd.specs.Sound.{Rises}
use Rattle.lloyd.proofs.Places.{lent_fits, lent}
use Rattle.lloyd.proofs.Widths.{levels-le, boundaries-length, boundaries-count, tables-rule}
use Rattle.lloyd.proofs.Quantized.{quantized-le}
use Rattle.quantizer.proofs.quantize_at.Goals as goal

pub returns-then-n-eq0 : goal.returns-then-n-eq0
returns-then-n-eq0 c =
    let a = c.args in
    omega (arith, quantized-le (boundaries_of a.bits) a.x, boundaries-count a.bits c.levels-n.result c.levels-n.ensures)

pub slice_bounds-halving-end : goal.slice_bounds-halving-end
slice_bounds-halving-end c =
    let n = c.levels-n in
    let bits = c.args.bits in
    lent_fits (boundaries_of bits) c.boundaries-table.result (n.result - 1) c.boundaries-table.ensures (boundaries-count bits n.result n.ensures)

pub halving-requires-clause-rises : goal.halving-requires-clause-rises
halving-requires-clause-rises c =
    let n = c.levels-n in
    let bits = c.args.bits in
    let table : take (n.result - 1 - 0) c.boundaries-table.result ≡ boundaries_of bits =
    lent (boundaries_of bits) c.boundaries-table.result (n.result - 1) c.boundaries-table.ensures (boundaries-count bits n.result n.ensures) in
    let some : 0 < levels_of bits = omega (arith, n.ensures, c.if-n-eq0.false) in
    subst⁻¹ Rises table (tables-rule bits some).boundaries-rise

pub returns : goal.returns
returns c =
    let n = c.levels-n in
    let bits = c.args.bits in
    let table : take (n.result - 1 - 0) c.boundaries-table.result ≡ boundaries_of bits =
    lent (boundaries_of bits) c.boundaries-table.result (n.result - 1) c.boundaries-table.ensures (boundaries-count bits n.result n.ensures) in
    let x = c.args.x in
    c.halving.ensures ∙ ap (λ (l : List Float). quantized l x) table

pub overflow_cast-result : goal.overflow_cast-result
overflow_cast-result c =
    let a = c.args in
    omega (arith, returns c, quantized-le (boundaries_of a.bits) a.x, boundaries-length a.bits, levels-le a.bits)
