use mathlib.Core.Path.{ap}
use Rattle.print.proofs.Places.{put_then}
use Rattle.header.specs.declared.Head.{Head}
use Rattle.listed.specs.Listing.{head_line}
use Rattle.listing_text.proofs.Lines.{put-head}
use Rattle.listing_text.proofs.put_head.Goals as goal

pub returns : goal.returns
unfolding head_line
returns c =
    let head = c.head_in-head.ensures in
    let dim = put_then c.put_decimal.ensures c.put_next.ensures in
    let bits = put_then (put_then dim c.put_next-2.ensures) c.put_next-3.ensures in
    put-head _ _ _ _ _ _ (ap (λ (h : Head). h.version) head) (ap (λ (h : Head). h.header) head) (ap (λ (h : Head). h.count) head)
    (put_then (put_then bits c.put_next-4.ensures) c.put_byte.ensures)
