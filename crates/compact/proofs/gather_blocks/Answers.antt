use Rattle.std.proofs.Common.{◌<◌, ◌∙◌, arith}
use Rattle.std.proofs.lemmas.List.{length-take-le, get_or-take}
use Rattle.compact.proofs.Gathering.{blocks-none, blocks_more}
use Rattle.compact.proofs.gather_blocks.Goals as goal

pub loop-i-init : goal.loop-i-init
loop-i-init c = blocks-none _ _ _ _ c.requires

pub loop-i-preserved : goal.loop-i-preserved
loop-i-preserved c =
    let a = c.args in
    let at = c.loop-i in
    let in-range : at.i < a.n = omega (arith, c.loop-i-test.true, length-take-le a.n a.slots.now c.requires.many) in
    let from = get_or-take a.n a.slots.now at.i 0 in-range in
    rw from at (c.copy_within.ensures.after) ∙ blocks_more _ _ _ _ c.requires at.invariant at.auto.codes in-range (omega arith)
