use mathlib.Core.Path.{◌∙◌}
use native.Mathlib.Omega.{arith}
use Rattle.positions.proofs.Walks.{entry-branch, walk_begins, walk-on, walk-later, walk_ends}
use Rattle.positions.proofs.HeldKeys.find.Goals as goal

pub loop-place-init : goal.loop-place-init
loop-place-init c = rw c.root-place.ensures (walk_begins _ _ _ _ _ _ c.requires)

pub passes-requires-clause-standing : goal.passes-requires-clause-standing
passes-requires-clause-standing c = λ slot e. let n = c.requires.node _ slot e in (n.has_key, n.has-position)

pub loop-place-smaller : goal.loop-place-smaller
loop-place-smaller c =
    let w = c.loop-place.invariant in
    let p = c.passes.ensures.yes c.loop-place-test.true in
    let l = walk-later _ _ _ _ _ _ c.requires _ _ p.0 w p.1 p.2 in
    let e = c.branch_of-place.ensures ∙ entry-branch _ _ _ _ p.1 in
    omega (arith, w.within, l, e)

pub loop-place-preserved : goal.loop-place-preserved
loop-place-preserved c =
    let p = c.passes.ensures.yes c.loop-place-test.true in
    rw (c.branch_of-place.ensures, entry-branch _ _ _ _ p.1)
    (walk-on _ _ _ _ _ _ c.requires _ _ p.0 c.loop-place.invariant p.1 p.2)

pub returns : goal.returns
returns c = walk_ends _ _ _ _ _ _ _ _ c.loop-place.invariant (c.passes.ensures.no c.loop-place-test.false)
