use Rattle.std.proofs.Common.{rules, arith, ◌≡◌, Err}
use Rattle.refusal.proofs.Numbers.{above_0}
use Rattle.asking.proofs.Faults.{search-places, search-query}
use Rattle.asking.proofs.check_search.Goals as goal

pub returns-in_err-check_places : goal.returns-in_err-check_places
returns-in_err-check_places c =
    let r = c.in_err-check_places.field-0.0 in
    let k : c.from_residual.result ≡ Err r = search rules in
    rw k (search-places _ _ _ _ _ _ c.in_err-check_places.ensures (λ z. omega (arith, above_0 r, z)))

pub returns : goal.returns
returns c = search-query _ _ _ _ _ _ c.in_ok-check_places.ensures c.check.ensures
