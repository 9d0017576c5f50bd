use Rattle.std.proofs.Common.{rules, arith, sym, ◌∙◌, ◌≡◌, Err}
use Rattle.refusal.proofs.Numbers.{above_0}
use Rattle.search_cascade.proofs.Cascade.{fault-places, fault-cascade, fault-query}
use Rattle.search_cascade.proofs.check.Goals as goal

pub returns-in_err-check_places : goal.returns-in_err-check_places
returns-in_err-check_places c =
    let r = c.in_err-check_places.field-0.0 in
    let k : c.from_residual.result ≡ Err r = search rules in
    rw k (fault-places _ _ _ _ _ _ c.in_err-check_places.ensures (λ z. omega (arith, above_0 r, z)))

pub returns-then-not-is_enabled : goal.returns-then-not-is_enabled
returns-then-not-is_enabled c = fault-cascade _ _ _ _ _ 0 c.in_ok-check_places.ensures (sym c.is_enabled.ensures ∙ c.if-not-is_enabled.true)

pub returns : goal.returns
returns c = fault-query _ _ _ _ _ _ c.in_ok-check_places.ensures (sym c.is_enabled.ensures ∙ c.if-not-is_enabled.false) c.check.ensures
