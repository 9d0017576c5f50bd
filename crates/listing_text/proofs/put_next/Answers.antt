use Rattle.print.proofs.Places.{put_then}
use Rattle.listing_text.proofs.put_next.Goals as goal

pub returns : goal.returns
returns c = put_then c.put_byte.ensures c.put_decimal.ensures
