use mathlib.Core.Path.{sym, ◌∙◌}
use native.Mathlib.Omega.{arith}
use Rattle.lloyd.specs.Tables.{centroids_of}
use Rattle.lloyd.proofs.Places.{lent, lent_fits}
use Rattle.lloyd.proofs.Widths.{centroids-length}
use Rattle.unit.specs.Brought.{query_of}
use Rattle.unit.proofs.Rotatable.{rotatable-of}
use Rattle.index.specs.State.{header_of}
use Rattle.score_slot.proofs.Slot.{query-lent, score-lent}
use Rattle.score_slot.proofs.score_by_width.Goals as goal

pub slice_bounds-score_prepared-end : goal.slice_bounds-score_prepared-end
slice_bounds-score_prepared-end c = lent_fits (centroids_of _) _ _ c.centroids-centroids.ensures (c.levels-n.ensures ∙ sym (centroids-length _))

pub slice_bounds-score_prepared-end-2 : goal.slice_bounds-score_prepared-end-2
slice_bounds-score_prepared-end-2 c =
    omega (arith, c.padded_dim-padded.ensures, c.prepare.auto, (rotatable-of _ _ 4096 c.requires.can_rotate).room)

pub returns : goal.returns
returns c =
    let q = c.args.query.now in
    c.score_prepared.ensures ∙
    score-lent (header_of c.args.index) (query_of q) _ _ _ _ (lent (centroids_of _) _ _ c.centroids-centroids.ensures (c.levels-n.ensures ∙ sym (centroids-length _)))
    (query-lent _ _ q _ _ _ c.requires.can_rotate c.prepare.ensures _ c.padded_dim-padded.ensures)
