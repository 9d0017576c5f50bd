use Rattle.std.proofs.Common.{ap, ◌∙◌}
use Rattle.codes.specs.Packing.{bytes_per_vector}
use Rattle.codes.specs.Writing.{is_width, at_width}
use Rattle.padding.specs.Padded.{padded_dim}
use Rattle.conversion.specs.Old.{old_header}
use Rattle.conversion.proofs.block_in.Goals as goal

pub returns : goal.returns
unfolding old_header is_width at_width
returns c = c.bytes_per_vector.ensures ∙ ap (bytes_per_vector 4) (c.padded_dim.ensures ∙ ap padded_dim c.dim_in.ensures)
