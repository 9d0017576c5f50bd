use Rattle.std.proofs.Common.{rules, ◌≡◌, Err, sym}
use Rattle.index.specs.Step.{file_length}
use Rattle.index.proofs.Calls.{call-misfit}
use Rattle.layout.proofs.Counting.{whole-block, low-block, low-counts, version-is, length-is, length-call}
use Rattle.layout.proofs.file_length.Goals as goal

pub returns-in_err-check : goal.returns-in_err-check
returns-in_err-check c =
    let k : c.from_residual.result ≡ Err c.in_err-check.field-0.0 = search rules in
    rw (k, c.in_err-check.ensures.1) (sym (call-misfit _ _ file_length c.in_err-check.ensures.0))

pub length_of-requires : goal.length_of-requires
length_of-requires c =
    let e = c.in_ok-check.ensures in
    let few = low-counts _ _ e _ c.count_slots-counts.ensures in
    (rw (whole-block _ _ e _ c.block_size.ensures) (low-block _ _ e), few.0, few.1)

pub returns : goal.returns
returns c =
    let e = c.in_ok-check.ensures in
    let counts = c.count_slots-counts.ensures in
    let version = version-is _ _ e _ _ counts c.version_with-version.ensures in
    length-call _ _ e _ (length-is _ _ e _ _ _ _ counts version (whole-block _ _ e _ c.block_size.ensures) c.length_of.ensures)
