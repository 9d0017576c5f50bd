use mathlib.Core.Path.{ap, ◌∙◌}
use Prim.Native.Nat.{◌*◌}
use lib.ListN.{drop}
use Rattle.index.specs.Read.{little_endian}
use Rattle.listed.specs.Listing.{half_in}
use Rattle.listing_text.proofs.half_of.Goals as goal

pub returns : goal.returns
unfolding half_in
returns c = c.rd_u16.ensures ∙ ap (little_endian 2) (c.after.ensures ∙ ap (drop (c.args.slot * 2)) c.stages_in-scales.ensures)
