use Rattle.print.proofs.Places.{put_then}
use Rattle.listed.specs.Listing.{slot_line}
use Rattle.listing_text.proofs.put_slot.Goals as goal

pub returns : goal.returns
unfolding slot_line
returns c = put_then (put_then c.put_decimal.ensures (put_then c.put_byte.ensures c.put_key.ensures)) c.put_half.ensures
