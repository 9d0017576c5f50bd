use Rattle.std.proofs.Common.{refl}
use Rattle.listing_text.proofs.Text.{put-accepted}
use Rattle.listing_text.proofs.put_read.Goals as goal

pub returns : goal.returns
returns c =
    let read = c.in_default.ensures in
    put-accepted c.args.file.now _ _ _ read.refusal (read.keys_after refl) c.put_head.ensures c.put_slots.ensures
