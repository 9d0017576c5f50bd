use Rattle.std.proofs.Common.{◌∙◌, sym}
use native.Mathlib.Omega.{arith}
use Rattle.index.specs.State.{header_of}
use Rattle.marks.specs.Live.{marks_in}
use Rattle.hits.specs.Hits.{score_at}
use Rattle.unit.specs.Brought.{query_of}
use Rattle.hits.proofs.Answer.{ready-few, not-ready}
use Rattle.hits.proofs.list.Goals as goal

pub returns-then-not-is_ready : goal.returns-then-not-is_ready
returns-then-not-is_ready c =
    let m =
    not-ready (score_at (header_of c.args.index) c.args.arrays.now.codes.now c.args.arrays.now.scales.now c.args.arrays.now.codes2.now c.args.arrays.now.scales2.now (query_of c.args.query.now)) (marks_in c.args.marks.now)
    c.args.index.n c.args.k c.args.slots.now c.args.scores.now _ (sym c.is_ready.ensures ∙ c.if-not-is_ready.true) in
    record { answer = m.0; slots_after = m.1.0; scores_after = m.1.1 }

pub list_in-requires-2-clause-room : goal.list_in-requires-2-clause-room
list_in-requires-2-clause-room c =
    let ok = sym c.is_ready.ensures ∙ c.if-not-is_ready.false in
    let few = ready-few _ _ _ _ ok in
    (few, omega arith)
