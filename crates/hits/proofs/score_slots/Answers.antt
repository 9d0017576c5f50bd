use native.Mathlib.Omega.{arith}
use mathlib.Core.Path.{◌≡◌, ap, ◌∙◌}
use Rattle.codes.specs.Packing.{bytes_per_vector}
use Rattle.codes.proofs.Tests.{at_width_lem}
use Rattle.encode.specs.Header.{block_size}
use Rattle.index.specs.State.{header_of}
use Rattle.marks.specs.Live.{marks_in}
use Rattle.hits.proofs.Scored.{one-stage, two-stages}
use Rattle.hits.proofs.score_slots.Goals as goal

pub returns-then-index : goal.returns-then-index
returns-then-index c =
    let size_is : c.bytes_per_vector-size.result ≡ block_size (header_of c.args.index) =
    c.bytes_per_vector-size.ensures ∙ at_width_lem _ (record { some = omega (arith, c.requires.0); most = omega (arith, c.requires.1) })
    ∙ ap (bytes_per_vector c.args.index.bits) c.padded_dim.ensures in
    let a = c.args in
    two-stages (header_of a.index) a.arrays.now.codes.now a.arrays.now.scales.now a.arrays.now.codes2.now a.arrays.now.scales2.now a.centroids.now a.prepared.now _
    size_is (marks_in a.marks.now) a.index.n a.all.now _ c.requires.2 c.stage_scores.ensures _ c.if-index.true c.stage_scores-then-index.ensures

pub returns-else-index : goal.returns-else-index
returns-else-index c =
    let size_is : c.bytes_per_vector-size.result ≡ block_size (header_of c.args.index) =
    c.bytes_per_vector-size.ensures ∙ at_width_lem _ (record { some = omega (arith, c.requires.0); most = omega (arith, c.requires.1) })
    ∙ ap (bytes_per_vector c.args.index.bits) c.padded_dim.ensures in
    let a = c.args in
    one-stage (header_of a.index) a.arrays.now.codes.now a.arrays.now.scales.now a.arrays.now.codes2.now a.arrays.now.scales2.now a.centroids.now a.prepared.now _
    size_is (marks_in a.marks.now) a.index.n a.all.now _ c.requires.2 c.stage_scores.ensures c.if-index.false
