use Rattle.digits.proofs.Bytes.{le-bytes}
use Rattle.write.proofs.Writer.put_number.Goals as goal

pub put_bytes-requires : goal.put_bytes-requires
put_bytes-requires c = rw (c.to_le_bytes.ensures, le-bytes c.args.size c.args.value c.requires.few) c.requires.room

pub returns : goal.returns
returns c = rw (c.to_le_bytes.ensures, le-bytes c.args.size c.args.value c.requires.few) at c.put_bytes.ensures
