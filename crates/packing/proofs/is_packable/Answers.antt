use mathlib.Core.Path.{sym, ◌∙◌}
use borrow.Author.Tests.{eq-eqb, ne_eqb}
use lib.ListN.{length}
use Rattle.codes.specs.Packing.{bytes_per_vector}
use Rattle.codes.specs.Writing.{packable}
use Rattle.codes.proofs.Tests.{is-width, no-width, a-width, at_width_lem}
use Rattle.packing.proofs.is_packable.Goals as goal

pub returns-then-not-is_width : goal.returns-then-not-is_width
unfolding packable
returns-then-not-is_width c = rw (no-width c.args.bits c.is_width.ensures c.if-not-is_width.true)

pub all_fit-requires : goal.all_fit-requires
all_fit-requires c = (a-width _ c.is_width.ensures c.if-not-is_width.false).most

pub returns-then-bytes-bytes_per_vector : goal.returns-then-bytes-bytes_per_vector
unfolding packable
returns-then-bytes-bytes_per_vector c =
    let width = a-width _ c.is_width.ensures c.if-not-is_width.false in
    let count = c.bytes_per_vector.ensures ∙ at_width_lem _ width in
    rw (is-width width, eq-eqb c.args.bytes _ (c.if-bytes-bytes_per_vector.true ∙ count)) c.all_fit.ensures

pub returns-else-bytes-bytes_per_vector : goal.returns-else-bytes-bytes_per_vector
unfolding packable
returns-else-bytes-bytes_per_vector c =
    let width = a-width _ c.is_width.ensures c.if-not-is_width.false in
    let count = c.bytes_per_vector.ensures ∙ at_width_lem _ width in
    let other = c.if-bytes-bytes_per_vector.false in
    rw (ne_eqb _ _ other, is-width width, ne_eqb c.args.bytes (bytes_per_vector c.args.bits (length c.args.codes.now)) (λ e. other (e ∙ sym count)))
