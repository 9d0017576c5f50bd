use Rattle.std.proofs.Common.{false}
use Rattle.read.proofs.Keys.{filled, given-none, given-more}
use Rattle.read.proofs.set_keys.Goals as goal

pub loop-i-init : goal.loop-i-init
loop-i-init c =
    let words = c.fill.ensures.after (λ y w. w) in
    let marks = c.fill-2.ensures.after (λ y w. w) in
    given-none _ _ _ _ (cc (filled 0 c.args.n c.args.keys.now c.requires.0)) (cc (filled false c.args.n c.args.keyed.now c.requires.1))

pub loop-i-preserved : goal.loop-i-preserved
loop-i-preserved c =
    let g = c.give_key.ensures in
    given-more _ _ _ _ c.loop-i.invariant _ _ c.entry_slot.ensures c.entry_key.ensures _ _ g.keys_after g.keyed_after
