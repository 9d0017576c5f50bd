use Rattle.index.specs.Verdict.{verdict}
use Rattle.words.proofs.Exports.{misfit-left, told-left, asked-words}
use Rattle.key_exports.proofs.vecq_raw_contains_key.Goals as goal

pub returns-in_default : goal.returns-in_default
returns-in_default c = misfit-left _ _ _ _ c.record_beside.ensures _ _ c.in_default.is

pub returns : goal.returns
returns c =
    told-left _ _ _ _ c.record_beside.ensures _ c.in-Some.is _ _ _ c.contains_key-contained.ensures (asked-words (verdict c.contains_key-contained.result)) _ _ c.put_asked.ensures
