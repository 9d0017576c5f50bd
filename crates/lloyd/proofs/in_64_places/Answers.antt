use Rattle.std.proofs.Common.{ap, drop, length, ◌++◌}
use lib.Ieee.{of_bits}
use Rattle.lloyd.specs.Tables.{in_places, zeros64}
use Rattle.lists.specs.Lists.{over}
use Rattle.lloyd.proofs.in_64_places.Goals as goal

pub returns : goal.returns
unfolding in_places zeros64 over of_bits
returns c = ap (λ l. l ++ drop (length c.args.table.now) zeros64) c.copy_from_slice.ensures.after
