use Rattle.std.proofs.Common.{ap, ◌∙◌}
use Rattle.compact.specs.Gathered.{with_kept}
use Rattle.layout.proofs.Counting.{whole-block}
use Rattle.compact.proofs.Arrays.{places-room, first-room, marks-room, years-room, second-room, closed-up, compacted-call}
use Rattle.compact.proofs.close_up.Goals as goal

pub live_slots-n-requires : goal.live_slots-n-requires
live_slots-n-requires c = places-room _ _ c.requires

pub gather_stage-requires : goal.gather_stage-requires
gather_stage-requires c =
    let e = c.requires in
    let v = c.live_slots-n.ensures in
    first-room _ _ e _ _ v.slots_after v.value _ (whole-block _ _ e _ c.block_size-size.ensures)

pub gather_stage-requires-2 : goal.gather_stage-requires-2
gather_stage-requires-2 c =
    let e = c.requires in
    let v = c.live_slots-n.ensures in
    second-room _ _ e _ _ v.slots_after v.value _ _ (whole-block _ _ e _ c.block_size-size.ensures) c.second_stages.ensures

pub gather-requires : goal.gather-requires
gather-requires c =
    let v = c.live_slots-n.ensures in
    years-room _ _ c.requires _ _ v.slots_after v.value

pub gather_marks-requires : goal.gather_marks-requires
gather_marks-requires c =
    let v = c.live_slots-n.ensures in
    let m = marks-room _ _ c.requires _ _ v.slots_after v.value in
    record { downward = m.0; n_in_bounds = m.1 }

pub returns : goal.returns
returns c =
    let e = c.requires in
    let v = c.live_slots-n.ensures in
    let first = c.gather_stage.ensures in
    let second = c.gather_stage-2.ensures in
    let marks = c.gather_marks.ensures in
    compacted-call _ _ e _ _ (c.with_kept.ensures ∙ ap (with_kept c.args.index) v.value)
    (closed-up _ _ e _ _ _ _ _
    (record {
      listed = v.slots_after;
      many = v.value;
      size_is = whole-block _ _ e _ c.block_size-size.ensures;
      second_is = c.second_stages.ensures;
      codes = first.codes_after;
      scales = first.scales_after;
      keys = marks.keys_after;
      keyed = marks.keyed_after;
      held = marks.held_after;
      alive = marks.alive_after;
      codes2 = second.codes_after;
      scales2 = second.scales_after;
      years = c.gather.ensures 0;
    }))
