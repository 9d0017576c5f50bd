use Rattle.print.proofs.Places.{put_then}
use Rattle.streams.proofs.put_refused.Goals as goal

pub returns : goal.returns
returns c = put_then c.put_bytes.ensures (put_then (rw c.from.ensures at c.put_decimal.ensures) c.put_byte.ensures)
