use mathlib.Core.Path.{◌∙◌}
use Rattle.index.specs.Verdict.{verdict}
use Rattle.words.proofs.Words.{count-answer}
use Rattle.words.proofs.Exports.{misfit-left, told-left, length-words}
use Rattle.write_exports.proofs.vecq_raw_file_length.Goals as goal

pub returns-in_default : goal.returns-in_default
returns-in_default c = misfit-left _ _ _ _ c.record_beside.ensures _ _ c.in_default.is

pub returns : goal.returns
returns c =
    let length = verdict c.file_length-length.result in
    told-left _ _ _ _ c.record_beside.ensures _ c.in-Some.is _ _ _ c.file_length-length.ensures (length-words length) _ _ (c.put_count.ensures ∙ count-answer length c.args.answer.now)
