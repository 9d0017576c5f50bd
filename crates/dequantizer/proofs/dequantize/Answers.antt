use mathlib.Core.Path.{sym, ap, ◌∙◌}
use mathlib.Core.List.{List}
use lib.Ieee.{Float}
use Rattle.lloyd.specs.Tables.{centroids_of}
use Rattle.lloyd.specs.Quantizer.{centroid_at}
use Rattle.lloyd.proofs.Places.{lent_fits, lent}
use Rattle.lloyd.proofs.Widths.{centroids-length}
use Rattle.dequantizer.proofs.dequantize.Goals as goal

pub slice_bounds-dequantize_in-end : goal.slice_bounds-dequantize_in-end
slice_bounds-dequantize_in-end c =
    let t = c.centroids-table in
    let n = c.levels in
    let bits = c.args.bits in
    lent_fits (centroids_of bits) t.result n.result t.ensures (n.ensures ∙ sym (centroids-length bits))

pub returns : goal.returns
returns c =
    let t = c.centroids-table in
    let n = c.levels in
    let a = c.args in
    c.dequantize_in.ensures
    ∙ ap (λ (table : List Float). centroid_at table a.code)
    (lent (centroids_of a.bits) t.result n.result t.ensures (n.ensures ∙ sym (centroids-length a.bits)))
