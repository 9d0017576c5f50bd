use mathlib.Core.Path.{sym, ◌∙◌}
use native.Mathlib.Omega.{arith}
use Rattle.index.specs.Lent.{contents}
use Rattle.index.specs.State.{header_of}
use Rattle.positions.proofs.Decides.{same, decides-false}
use Rattle.positions.proofs.Slots.{positions-meaning}
use Rattle.fit.proofs.Rooms.{in-width, enough, keys-room}
use Rattle.fit.proofs.Meaning.{meaning}
use Rattle.fit.proofs.fits.Goals as goal

pub returns-then-room-n : goal.returns-then-room-n
returns-then-room-n c =
    let g = c.fields_fit.ensures.yes c.if-fields_fit.true in
    let e = c.capacity-room.ensures ∙ in-width _ _ g.bits g.bits-high in
    sym (decides-false (meaning _ _) (λ f. omega (arith, f.room, e, c.if-room-n.true)))

pub marks_fit-requires : goal.marks_fit-requires
marks_fit-requires c =
    let g = c.fields_fit.ensures.yes c.if-fields_fit.true in
    let e = c.capacity-room.ensures ∙ in-width _ _ g.bits g.bits-high in
    let room = enough (header_of c.args.index) (contents c.args.arrays.now) c.args.index.n (omega (arith, e, c.if-room-n.false)) in
    (room.few, room.keyed, room.alive)

pub returns-then-marks_fit : goal.returns-then-marks_fit
returns-then-marks_fit c =
    let g = c.fields_fit.ensures.yes c.if-fields_fit.true in
    let e = c.capacity-room.ensures ∙ in-width _ _ g.bits g.bits-high in
    let d = positions-meaning _ _ in
    c.positions_fit.ensures
    ∙ same _ _
    (record {
      yes = λ t.
          record {
            fields = g;
            room = omega (arith, e, c.if-room-n.false);
            marks = c.marks_fit.ensures.yes c.if-marks_fit.true;
            positions = (d.yes t).1;
          };
      no = λ t f. d.no t (keys-room _ _ _ f.room, f.positions);
    })
    (meaning _ _)

pub returns-then-fields_fit : goal.returns-then-fields_fit
returns-then-fields_fit c = sym (decides-false (meaning _ _) (λ f. c.marks_fit.ensures.no c.if-marks_fit.false f.marks))

pub returns : goal.returns
returns c = sym (decides-false (meaning _ _) (λ f. c.fields_fit.ensures.no c.if-fields_fit.false f.fields))
