use mathlib.Core.Path.{ap}
use Rattle.header.specs.declared.Head.{Head}
use Rattle.slot_keys.specs.Has.{key_at}
use Rattle.listed.specs.Listing.{slot_line}
use Rattle.listing_text.proofs.Lines.{lines_none, lines_more, lines-all}
use Rattle.listing_text.proofs.put_slots.Invariants.{line_of}
use Rattle.listing_text.proofs.put_slots.Goals as goal

pub loop-slot-init : goal.loop-slot-init
loop-slot-init c = lines_none _ _ _

pub loop-slot-preserved : goal.loop-slot-preserved
loop-slot-preserved c =
    let args = c.args in
    let loop = c.loop-slot in
    lines_more (line_of args.keys.now args.keyed.now args.file.now) _ _ c.loop-slot-test.true
    (ap (slot_line loop.slot (key_at args.keys.now args.keyed.now loop.slot)) c.half_of.ensures) loop.invariant c.put_slot.ensures

pub returns : goal.returns
returns c =
    let args = c.args in
    lines-all (line_of args.keys.now args.keyed.now args.file.now) _ _ _ (ap (λ (h : Head). h.count) c.head_in-slot-end.ensures) c.loop-slot-test.false c.loop-slot.invariant
