use mathlib.Core.Path.{sym, ◌∙◌}
use Rattle.lloyd.specs.Tables.{centroids_of, boundaries_of}
use Rattle.lloyd.proofs.Places.{lent_fits}
use Rattle.lloyd.proofs.Widths.{centroids-length, boundaries-count}
use Rattle.place.proofs.Codes.{by-tables}
use Rattle.place.proofs.encode_by_width.Goals as goal

pub slice_bounds-encode-end : goal.slice_bounds-encode-end
slice_bounds-encode-end c = lent_fits (boundaries_of _) _ _ c.boundaries-boundaries.ensures (boundaries-count _ _ c.levels-n.ensures)

pub slice_bounds-encode-end-2 : goal.slice_bounds-encode-end-2
slice_bounds-encode-end-2 c = lent_fits (centroids_of _) _ _ c.centroids-centroids.ensures (c.levels-n.ensures ∙ sym (centroids-length _))

pub returns : goal.returns
returns c =
    rw c.header_of.ensures at c.encode.ensures ∙ by-tables _ _ c.levels-n.ensures _ _ c.boundaries-boundaries.ensures c.centroids-centroids.ensures _ _ _ _
