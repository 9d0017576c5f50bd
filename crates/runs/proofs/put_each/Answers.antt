use Rattle.std.proofs.Common.{◌≡◌, ap, ◌∙◌, min, max, arith, rules, tests}
use Rattle.runs.proofs.Runs.{first_none, first_more, first-all}
use Rattle.runs.proofs.put_each.Goals as goal

pub loop-x-init : goal.loop-x-init
loop-x-init g c = first_none _ g.T.InHex.number _ _

pub loop-x-preserved : goal.loop-x-preserved
loop-x-preserved g c =
    let width = g.met.T.InHex.width in
    let digits : min (max c.DIGITS.result 1) 16 ≡ g.T.InHex.DIGITS = omega (arith, width.0, width.1, c.DIGITS.ensures) in
    let number = c.number.ensures.value ∙ ap g.T.InHex.number c.x-item.is in
    first_more _ g.T.InHex.number _ c.x-item.result _ _ width.0 width.1 c.loop-x-test.true number c.number.ensures.small c.loop-x.invariant
    (rw digits at c.put_hex.ensures)

pub returns : goal.returns
returns g c = first-all _ g.T.InHex.number _ _ (search (rules, tests)) c.loop-x-test.false c.loop-x.invariant
