use Rattle.std.proofs.Common.{◌≡◌, ap, ◌∙◌}
use lib.Ieee.{of_bits}
use Rattle.lloyd.specs.Tables.{boundaries4, boundaries5, boundaries6, boundaries_of, in_places}
use Rattle.lloyd.proofs.Widths.{by-width-lent, boundaries-fit}
use Rattle.lloyd.proofs.boundaries.Goals as goal

pub in_64_places-requires : goal.in_64_places-requires
unfolding boundaries4 boundaries5 boundaries6 boundaries_of of_bits
in_64_places-requires c =
    let table : c.by_width.result.now ≡ boundaries_of c.args.bits = by-width-lent c.args.bits _ _ _ _ _ c.by_width.ensures in
    rw table (boundaries-fit c.args.bits)

pub returns : goal.returns
unfolding boundaries4 boundaries5 boundaries6 boundaries_of of_bits
returns c = c.in_64_places.ensures ∙ ap in_places (by-width-lent c.args.bits _ _ _ _ _ c.by_width.ensures)
