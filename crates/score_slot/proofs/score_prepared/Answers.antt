use Rattle.index.specs.State.{header_of, stage_at}
use Rattle.score_slot.proofs.Slot.{stage-lent, one-stage, two-stages}
use Rattle.score_slot.proofs.score_prepared.Goals as goal

pub returns-then-index : goal.returns-then-index
returns-then-index c =
    let scale = c.scale_at-scale in
    let block = c.slot_codes-block in
    let scale2 = c.scale_at-scale2 in
    let block2 = c.slot_codes-block2 in
    let lent = stage-lent (header_of c.args.index) c.args.centroids.now c.args.query.now _ _ c.padded_dim.ensures c.bytes_per_vector-size.ensures in
    two-stages _ _ _ _ _ _ _ _
    (lent c.args.arrays.now.scales.now c.args.arrays.now.codes.now c.args.slot scale.result block.result.now scale.ensures block.ensures)
    (lent c.args.arrays.now.scales2.now c.args.arrays.now.codes2.now c.args.slot scale2.result block2.result.now scale2.ensures block2.ensures)
    _ c.if-index.true c.score_residual.ensures

pub returns : goal.returns
returns c =
    let scale = c.scale_at-scale in
    let block = c.slot_codes-block in
    let lent = stage-lent (header_of c.args.index) c.args.centroids.now c.args.query.now _ _ c.padded_dim.ensures c.bytes_per_vector-size.ensures in
    one-stage _ _ _ _ (stage_at (header_of c.args.index) c.args.arrays.now.scales2.now c.args.arrays.now.codes2.now c.args.slot) _ _
    (lent c.args.arrays.now.scales.now c.args.arrays.now.codes.now c.args.slot scale.result block.result.now scale.ensures block.ensures)
    _ c.if-index.false c.score.ensures
