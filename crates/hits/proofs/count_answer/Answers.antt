use native.Mathlib.Omega.{arith}
use mathlib.Core.Path.{sym, ◌∙◌}
use Rattle.hits.proofs.Answer.{any_marked, count_none}
use Rattle.hits.proofs.count_answer.Goals as goal

pub returns-then-is_any_marked : goal.returns-then-is_any_marked
returns-then-is_any_marked c =
    count_none _ _ _ (omega (arith, c.if-hits-gt0.false)) (sym (any_marked _ _) ∙ sym c.is_any_marked.ensures ∙ c.if-is_any_marked.true)

pub returns : goal.returns
returns c = count_none _ _ _ (omega (arith, c.if-hits-gt0.false)) (sym (any_marked _ _) ∙ sym c.is_any_marked.ensures ∙ c.if-is_any_marked.false)
