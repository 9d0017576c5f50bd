use mathlib.Core.Path.{sym, ◌∙◌}
use native.Mathlib.Omega.{arith}
use Rattle.lloyd.specs.Tables.{centroids_of}
use Rattle.lloyd.proofs.Places.{lent, lent_fits}
use Rattle.lloyd.proofs.Widths.{centroids-length}
use Rattle.unit.specs.Brought.{query_of}
use Rattle.unit.proofs.Rotatable.{rotatable-of}
use Rattle.index.specs.State.{header_of}
use Rattle.score_slot.proofs.Slot.{query-lent}
use Rattle.hits.proofs.Query.{entered-prepared}
use Rattle.hits.proofs.enter_all.Goals as goal

pub slice_bounds-enter_slots-end : goal.slice_bounds-enter_slots-end
slice_bounds-enter_slots-end c = lent_fits (centroids_of _) _ _ c.centroids-centroids.ensures (c.levels-levels.ensures ∙ sym (centroids-length _))

pub slice_bounds-enter_slots-end-2 : goal.slice_bounds-enter_slots-end-2
slice_bounds-enter_slots-end-2 c =
    omega (arith, c.padded_dim-padded.ensures, c.prepare.auto, (rotatable-of _ _ 4096 c.requires.can_rotate).room)

pub returns : goal.returns
returns c =
    let q = c.args.query.now in
    entered-prepared (header_of c.args.index) c.args.arrays.now.codes.now c.args.arrays.now.scales.now c.args.arrays.now.codes2.now c.args.arrays.now.scales2.now (query_of q) _ _
    (lent (centroids_of _) _ _ c.centroids-centroids.ensures (c.levels-levels.ensures ∙ sym (centroids-length _)))
    (query-lent _ _ q _ _ _ c.requires.can_rotate c.prepare.ensures _ c.padded_dim-padded.ensures)
    _ _ _ _ _ _ _ c.enter_slots.ensures
