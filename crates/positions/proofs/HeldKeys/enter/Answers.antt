use mathlib.Core.Path.{refl}
use native.Mathlib.Numerals.{add-one}
use native.Mathlib.Omega.{arith}
use borrow.Author.Tests.{eqb-true, eqb-false}
use Rattle.positions.proofs.Decides.{holds, fails}
use Rattle.positions.proofs.Order.{entry-slot, loose-new, loose-not, position-low}
use Rattle.positions.proofs.Walks.{skipped, met-twice, entered-new, entered}
use Rattle.positions.proofs.HeldKeys.enter.Goals as goal

pub returns-then-not-self-slot : goal.returns-then-not-self-slot
returns-then-not-self-slot c =
    let off = c.if-not-self-slot.true in
    record {
      yes = λ e. (skipped _ _ _ _ c.requires.grown off, loose-new _ c.args.self.now.n _ off (eqb-true _ _ e));
      no = λ e. loose-not _ _ _ off (eqb-false _ _ e) c.requires.room.0;
    }

pub returns-then-self-position : goal.returns-then-self-position
returns-then-self-position c =
    fails
    (λ o. let low = position-low _ _ o _ _ _ c.requires.room.0 (record { keyed = c.if-not-self-slot.false; key = refl; position = refl }) in
    omega (arith, low, c.if-self-position.true))

pub returns-then-tree-place-ne0 : goal.returns-then-tree-place-ne0
returns-then-tree-place-ne0 c =
    fails (met-twice _ _ _ _ c.requires.grown c.if-not-self-slot.false _ c.find-place.ensures _ _ c.requires.room.0 (entry-slot _ c.if-tree-place-ne0.true))

pub returns : goal.returns
returns c =
    let on = c.if-not-self-slot.false in
    let ends = c.find-place.ensures in
    let free = c.if-tree-place-ne0.false in
    let room = c.args.self.now.room in
    rw (add-one c.args.slot)
    (holds (
      entered _ _ _ _ c.requires.grown on _ ends free (omega (arith, room.keys, c.requires.room.0)) (omega (arith, room.held, c.requires.room.0)) (omega (arith, c.requires.room)),
      entered-new _ _ _ _ c.requires.grown on _ ends free,
    ))
