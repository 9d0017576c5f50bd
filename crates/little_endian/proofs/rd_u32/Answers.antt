use Rattle.std.proofs.Common.{◌∙◌}
use Rattle.little_endian.proofs.Numbers.{first-number}
use Rattle.little_endian.proofs.rd_u32.Goals as goal

pub returns : goal.returns
returns c = c.from_le_bytes.ensures ∙ first-number _ _ 3 c.first.ensures
