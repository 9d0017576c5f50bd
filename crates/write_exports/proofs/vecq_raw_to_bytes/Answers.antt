use Rattle.index.specs.Verdict.{verdict}
use Rattle.words.proofs.Exports.{no_record, write_done}
use Rattle.write_exports.proofs.vecq_raw_to_bytes.Goals as goal

pub returns-in_default-clause-answers : goal.returns-in_default-clause-answers
returns-in_default-clause-answers c = no_record _ _ _ c.record_beside.ensures _ _ c.in_default.is

pub returns : goal.returns
returns c =
    let told = c.to_bytes-written.ensures in
    let done = write_done _ _ _ c.record_beside.ensures _ c.in-Some.is _ _ _ (verdict c.to_bytes-written.result) _ _ (told.answers, told.later_kept) _ _ c.put_count.ensures in
    record { answers = done.0; answer_kept = done.1.0; file_kept = done.1.1 }
