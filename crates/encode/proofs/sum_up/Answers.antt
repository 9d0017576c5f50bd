use borrow.Author.Rules.{rules}
use native.Mathlib.Omega.{arith}
use lib.ListN.{length-append}
use lib.Ieee.{nan}
use Rattle.std.proofs.lemmas.Slice.Zip.{zip_turn, zip_end}
use Rattle.vectors.proofs.Sums.{squares-none, squares-next}
use Rattle.encode.proofs.Sums.{products-none, products-next, products-all}
use Rattle.encode.proofs.sum_up.Goals as goal

pub loop-x-init : goal.loop-x-init
loop-x-init c = (squares-none _, products-none _ _ c.requires, squares-none _)

pub loop-x-preserved : goal.loop-x-preserved
loop-x-preserved c =
    let inv = c.loop-x.invariant in
    let turn = zip_turn c.args.d.now c.args.e.now c.loop-x.yielded c.into_iter-x-iterator.result c.loop-x.x-iterator c.next.new.self _ (search rules) (search rules) c.loop-x.yielded_by _ c.in-Some.is c.next.ensures.steps in
    rw (turn.2 nan, turn.3 nan, length-append)
    (squares-next _ _ _ inv.0 turn.0, products-next _ _ _ _ inv.1 turn.0, squares-next _ _ _ inv.2 turn.1)

pub returns-clause-cross : goal.returns-clause-cross
returns-clause-cross c =
    let end = zip_end c.args.d.now c.args.e.now c.loop-x.yielded c.into_iter-x-iterator.result c.loop-x.x-iterator c.next.new.self _ (search rules) (search rules) c.loop-x.yielded_by c.in-None.is c.next.ensures.steps in
    products-all _ _ _ _ c.loop-x.invariant.1 (omega (arith, c.requires))
