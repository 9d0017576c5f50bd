use native.Mathlib.Omega.{arith}
use borrow.Author.Rules.{rules}
use Rattle.distinct.proofs.Writing.{writing-none, writing-few, writing_more}
use Rattle.distinct.proofs.Hits.write_firsts.Goals as goal

pub loop-i-init : goal.loop-i-init
loop-i-init c = writing-none _ _ _ _ _ _ _ _

pub write_place-many-requires-clause-room : goal.write_place-many-requires-clause-room
write_place-many-requires-clause-room c =
    let m = c.loop-i.invariant in
    let l = c.loop-i-test.true in
    let few = writing-few _ _ _ _ _ _ _ _ m in
    (omega (arith, m.names_same, c.requires.room.0), omega (arith, m.scores-same, c.requires.room.1), few)

pub loop-i-preserved : goal.loop-i-preserved
loop-i-preserved c =
    writing_more _ _ _ _ _ _ _ _ c.loop-i.invariant c.loop-i-test.true c.requires.room.0 c.requires.room.1 _ _ _ c.write_place-many.ensures (search rules) (search rules)
