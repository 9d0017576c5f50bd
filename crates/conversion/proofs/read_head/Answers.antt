use Rattle.std.proofs.Common.{sym, arith}
use Rattle.std.proofs.lemmas.Result.{err_from_is_err_and}
use Rattle.conversion.proofs.Streaming.{head-refused, head-sound, head-told}
use Rattle.conversion.proofs.read_head.Goals as goal

pub returns-in_err-check_head-clause-told : goal.returns-in_err-check_head-clause-told
returns-in_err-check_head-clause-told g c =
    let p = err_from_is_err_and c.from_residual-in_err-check_head.result c.from_residual-in_err-check_head.ensures.1 in
    rw (p.1, p.2) (head-refused _ _ c.fill.new.buf _ (omega arith) c.in_ok-came.ensures.bytes _ c.in_err-check_head.ensures)

pub returns-clause-sound : goal.returns-clause-sound
returns-clause-sound g c = head-sound _ _ c.fill.new.buf _ (omega arith) c.in_ok-came.ensures.bytes (sym c.in_ok-check_head.ensures) c.in_ok-came.ensures.within.0

pub returns-clause-told : goal.returns-clause-told
returns-clause-told g c = head-told _ _ c.fill.new.buf _ (omega arith) c.in_ok-came.ensures.bytes (sym c.in_ok-check_head.ensures) c.in_ok-came.ensures.within.0
