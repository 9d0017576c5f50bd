use Rattle.print.proofs.Places.{put_then}
use Rattle.listing_text.proofs.put_refusal.Goals as goal

pub returns : goal.returns
returns c = put_then (rw c.from-number.ensures at c.put_decimal.ensures) c.put_byte.ensures
