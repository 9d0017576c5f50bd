use mathlib.Core.Path.{sym, ◌∙◌}
use Rattle.listing_text.proofs.Lines.{put-keyed, put-unkeyed}
use Rattle.listing_text.proofs.put_key.Goals as goal

pub returns-then-is_keyed : goal.returns-then-is_keyed
returns-then-is_keyed c =
    let args = c.args in
    put-keyed args.keys.now args.keyed.now args.slot _ (sym c.is_keyed.ensures ∙ c.if-is_keyed.true) c.key_word.ensures c.put_decimal.ensures

pub returns : goal.returns
returns c = let args = c.args in put-unkeyed args.keys.now args.keyed.now args.slot (sym c.is_keyed.ensures ∙ c.if-is_keyed.false) c.put_byte.ensures
