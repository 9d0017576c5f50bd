use Rattle.std.proofs.Common.{rules, ◌≡◌, Err}
use Rattle.layout.proofs.Counting.{whole-block, version-is}
use Rattle.write.proofs.Calls.{measured, unmeasured, write-misfit, write-short, write_done, file-room}
use Rattle.write.proofs.to_bytes.Goals as goal

pub returns-in_err-length-clause-answers : goal.returns-in_err-length-clause-answers
returns-in_err-length-clause-answers c =
    let r = c.in_err-length.field-0.0 in
    let k : c.from_residual.result ≡ Err r = search rules in
    let m = unmeasured _ _ _ c.in_err-length.ensures in
    rw k (write-misfit _ _ _ _ m.0 m.1).0

pub returns-then-file-length-clause-answers : goal.returns-then-file-length-clause-answers
returns-then-file-length-clause-answers c =
    let m = measured _ _ _ c.in_ok-length.ensures in
    (write-short _ _ _ m.0 _ m.1 c.if-file-length.true).0

pub put_file-requires-clause-block_is_size : goal.put_file-requires-clause-block_is_size
put_file-requires-clause-block_is_size c =
    let m = measured _ _ _ c.in_ok-length.ensures in
    whole-block _ _ m.0 _ c.block_size.ensures

pub put_file-requires-clause-pieces_fit : goal.put_file-requires-clause-pieces_fit
put_file-requires-clause-pieces_fit c =
    let m = measured _ _ _ c.in_ok-length.ensures in
    file-room _ _ _ _ _ (version-is _ _ m.0 _ _ c.count_slots-counts.ensures c.version_with-version.ensures) m.1 c.if-file-length.false

pub returns-clause-answers : goal.returns-clause-answers
returns-clause-answers c =
    let m = measured _ _ _ c.in_ok-length.ensures in
    (write_done _ _ _ m.0 _ _ _ (version-is _ _ m.0 _ _ c.count_slots-counts.ensures c.version_with-version.ensures) m.1 c.if-file-length.false (search rules)).0

pub returns-clause-later_kept : goal.returns-clause-later_kept
returns-clause-later_kept c =
    let m = measured _ _ _ c.in_ok-length.ensures in
    (write_done _ _ _ m.0 _ _ _ (version-is _ _ m.0 _ _ c.count_slots-counts.ensures c.version_with-version.ensures) m.1 c.if-file-length.false (search rules)).1
