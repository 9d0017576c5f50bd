use Rattle.listing_text.proofs.Text.{put-long, put-short}
use Rattle.listing_text.proofs.put_text.Goals as goal

pub returns-then-file-gt65536 : goal.returns-then-file-gt65536
returns-then-file-gt65536 c = put-long _ _ c.if-file-gt65536.true c.long_refusal.ensures c.put_refusal.ensures

pub returns : goal.returns
returns c = put-short _ c.if-file-gt65536.false c.put_read.ensures
