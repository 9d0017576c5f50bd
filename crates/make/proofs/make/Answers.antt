use Rattle.std.proofs.Common.{rules, arith, ◌≡◌, Err, sym, ◌∙◌}
use Rattle.refusal.proofs.Numbers.{above_0}
use Rattle.index.specs.Lent.{contents_mut}
use Rattle.marks.proofs.Words.{first-none}
use Rattle.make.proofs.Making.{make-accepted, make-refused, unmarked-are}
use Rattle.make.proofs.make.Goals as goal

pub returns-in_err-check-clause-answers : goal.returns-in_err-check-clause-answers
returns-in_err-check-clause-answers c =
    let r = c.in_err-check.field-0.0 in
    let k : c.from_residual.result ≡ Err r = search rules in
    rw k (make-refused _ _ _ (rw c.view.ensures at c.in_err-check.ensures) (λ z. omega (arith, above_0 r, z)))

pub returns-clause-answers : goal.returns-clause-answers
returns-clause-answers c =
    let a = contents_mut c.args.arrays.now in
    make-accepted _ a _ _ (sym (rw c.view.ensures at c.in_ok-check.ensures)) c.fresh.ensures (unmarked-are a _ (c.mark_live.ensures ∙ first-none a.alive))
