use Rattle.std.proofs.Common.{rules, arith, ◌≡◌, Err}
use Rattle.refusal.proofs.Numbers.{above_0}
use Rattle.search_keyed.proofs.Keys.{keys-refused}
use Rattle.search_keyed.proofs.search_keyed.Goals as goal

pub returns-in_err-check_search : goal.returns-in_err-check_search
returns-in_err-check_search c =
    let r = c.in_err-check_search.field-0.0 in
    let k : c.from_residual.result ≡ Err r = search rules in
    let m = keys-refused _ _ _ _ _ _ c.in_err-check_search.ensures (λ z. omega (arith, above_0 r, z)) c.args.names.now c.args.scores.now in
    record { answers = rw k m.0; later_kept = rw k m.1 }
