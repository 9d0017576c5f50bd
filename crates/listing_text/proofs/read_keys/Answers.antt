use Rattle.std.proofs.Common.{rules, ◌≡◌, Ok, Err}
use Rattle.listing_text.proofs.Reading.{as-lent, fault-told, keys_are}
use Rattle.listing_text.proofs.read_keys.Goals as goal

pub returns-in_err-from_bytes-clause-refusal : goal.returns-in_err-from_bytes-clause-refusal
returns-in_err-from_bytes-clause-refusal c =
    let r = c.in_err-from_bytes.field-0.0 in
    let k : c.from_residual.result ≡ Err r = search rules in
    rw k (fault-told c.args.file.now _ (Err r) _ c.in_err-from_bytes.ensures.answers (as-lent _ _ c.requires.0 c.requires.1))

pub returns-clause-refusal : goal.returns-clause-refusal
returns-clause-refusal c =
    let read = c.in_ok-from_bytes in
    fault-told c.args.file.now _ (Ok read.field-0) _ read.ensures.answers (as-lent _ _ c.requires.0 c.requires.1)

-- the arrays that are lent to the call are keys and keyed still
pub returns-clause-keys_after : goal.returns-clause-keys_after
returns-clause-keys_after c =
    let read = c.in_ok-from_bytes in
    keys_are c.args.file.now _ (Ok read.field-0) _ read.ensures.answers (as-lent _ _ c.requires.0 c.requires.1) _ _
    (search rules) (search rules)
