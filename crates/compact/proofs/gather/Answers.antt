use Rattle.std.proofs.Common.{◌<◌, get_or, ap, ◌∙◌, arith}
use Rattle.std.proofs.lemmas.List.{length-take-le, get_or-take}
use Rattle.compact.proofs.Gathering.{moved-none, moved_more}
use Rattle.compact.proofs.gather.Goals as goal

pub loop-i-init : goal.loop-i-init
loop-i-init g c = moved-none _ _

pub loop-i-preserved : goal.loop-i-preserved
loop-i-preserved g c =
    let a = c.args in
    let at = c.loop-i in
    let in-range : at.i < a.n = omega (arith, c.loop-i-test.true, length-take-le a.n a.slots.now c.requires.many) in
    moved_more _ _ _ c.requires at.invariant in-range _
    (c.index-xs-slot.is ∙ ap (λ slot. get_or at.xs slot c.index-xs-slot.result) (get_or-take a.n a.slots.now at.i 0 in-range))
