use Rattle.std.proofs.Common.{sym, ◌∙◌, arith}
use Rattle.std.proofs.lemmas.Result.{err_from_is_err_and}
use Rattle.conversion.proofs.Streaming.{codes-fit, parts, head-stopped, scales-short, codes-short, dim-refused, all-answered, all-written}
use Rattle.conversion.proofs.convert.Goals as goal

pub returns-in_err-head-clause-answers : goal.returns-in_err-head-clause-answers
returns-in_err-head-clause-answers g c =
    let p = err_from_is_err_and c.from_residual.result c.from_residual.ensures.1 in
    rw (p.1, p.2) (head-stopped _ _ _ c.in_err-head.ensures.told)

pub returns-in_default-clause-answers : goal.returns-in_default-clause-answers
returns-in_default-clause-answers g c =
    rw (c.from.ensures) (scales-short _ _ _ _ _ c.in_ok-head.head _ c.in_ok-changed.field-0 c.count_in-count.ensures c.in_default.not-Some c.in_ok-head.ensures.told c.in_ok-changed.ensures)

pub overflow_mul-codes : goal.overflow_mul-codes
overflow_mul-codes g c =
    omega (arith, codes-fit c.in_ok-head.head _ _ c.count_in-count.ensures c.block_in.ensures c.in_ok-head.ensures.sound)

pub returns-then-branch-codes-clause-answers : goal.returns-then-branch-codes-clause-answers
returns-then-branch-codes-clause-answers g c =
    let n = c.count_in-count.ensures in
    let w = c.block_in.ensures in
    let all = parts _ _ _ _ _ _ _ c.in_ok-head.head _ _ _ _ _ n w c.in-Some.is c.in_ok-head.ensures.told c.in_ok-changed.ensures c.in_ok-pass.ensures.bytes in
    rw (c.from-then-branch-codes.ensures) (codes-short _ _ _ _ c.in_ok-head.head _ _ _ _ n w all c.if-branch-codes.true)

pub returns-then-dim_in-eq0-clause-answers : goal.returns-then-dim_in-eq0-clause-answers
returns-then-dim_in-eq0-clause-answers g c =
    let n = c.count_in-count.ensures in
    let w = c.block_in.ensures in
    let all = parts _ _ _ _ _ _ _ c.in_ok-head.head _ _ _ _ _ n w c.in-Some.is c.in_ok-head.ensures.told c.in_ok-changed.ensures c.in_ok-pass.ensures.bytes in
    rw (c.from-then-dim_in-eq0.ensures) (dim-refused _ _ _ _ c.in_ok-head.head _ _ _ _ n w all (omega (arith, c.if-branch-codes.false)) (sym c.dim_in.ensures ∙ c.if-dim_in-eq0.true))

pub returns-clause-answers : goal.returns-clause-answers
returns-clause-answers g c =
    let n = c.count_in-count.ensures in
    let w = c.block_in.ensures in
    let all = parts _ _ _ _ _ _ _ c.in_ok-head.head _ _ _ _ _ n w c.in-Some.is c.in_ok-head.ensures.told c.in_ok-changed.ensures c.in_ok-pass.ensures.bytes in
    all-answered _ _ _ _ c.in_ok-head.head _ _ _ _ n w all (omega (arith, c.if-branch-codes.false)) (λ z. c.if-dim_in-eq0.false (c.dim_in.ensures ∙ z))

pub returns-clause-written : goal.returns-clause-written
returns-clause-written g c =
    let n = c.count_in-count.ensures in
    let w = c.block_in.ensures in
    let all = parts _ _ _ _ _ _ _ c.in_ok-head.head _ _ _ _ _ n w c.in-Some.is c.in_ok-head.ensures.told c.in_ok-changed.ensures c.in_ok-pass.ensures.bytes in
    all-written _ _ _ _ c.in_ok-head.head _ _ _ _ n w all _ _ _ (rw c.new_head.ensures at c.in_ok-write_all.ensures.bytes) c.in_ok-write_all-2.ensures.bytes c.in_ok-flush.ensures.bytes
