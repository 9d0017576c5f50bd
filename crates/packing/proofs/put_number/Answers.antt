use Rattle.digits.proofs.Bytes.{le-bytes}
use Rattle.packing.proofs.put_number.Goals as goal

pub returns : goal.returns
returns c = rw (c.to_le_bytes.ensures, le-bytes _ c.args.value c.requires) at c.copy_from_slice.ensures.after
