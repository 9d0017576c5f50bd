use mathlib.Core.Path.{refl}
use Rattle.index.specs.Verdict.{verdict}
use Rattle.index.specs.Answers.{found}
use Rattle.words.proofs.Exports.{no_record, list_done}
use Rattle.search_exports.proofs.vecq_raw_search.Goals as goal

pub returns-in_default-clause-answers : goal.returns-in_default-clause-answers
returns-in_default-clause-answers c = no_record _ _ _ c.record_beside.ensures _ _ c.in_default.is

pub returns : goal.returns
returns c =
    let m = list_done _ _ _ c.record_beside.ensures _ c.in-Some.is _ _ _ found (λ n ns ss. refl) (verdict c.search-found.result) _ _ _ _ (c.search-found.ensures.answers, c.search-found.ensures.later_kept) _ _ c.put_count.ensures in
    record { answers = m.0; answer_kept = m.1.0; lists_kept = m.1.1 }
