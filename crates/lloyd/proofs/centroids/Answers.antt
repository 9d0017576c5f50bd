use Rattle.std.proofs.Common.{◌≡◌, ap, ◌∙◌}
use lib.Ieee.{of_bits}
use Rattle.lloyd.specs.Tables.{centroids4, centroids5, centroids6, centroids_of, in_places}
use Rattle.lloyd.proofs.Widths.{by-width-lent, centroids-fit}
use Rattle.lloyd.proofs.centroids.Goals as goal

pub in_64_places-requires : goal.in_64_places-requires
unfolding centroids4 centroids5 centroids6 centroids_of of_bits
in_64_places-requires c =
    let table : c.by_width.result.now ≡ centroids_of c.args.bits = by-width-lent c.args.bits _ _ _ _ _ c.by_width.ensures in
    rw table (centroids-fit c.args.bits)

pub returns : goal.returns
unfolding centroids4 centroids5 centroids6 centroids_of of_bits
returns c = c.in_64_places.ensures ∙ ap in_places (by-width-lent c.args.bits _ _ _ _ _ c.by_width.ensures)
