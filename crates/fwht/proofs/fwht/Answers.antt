use mathlib.Core.Path.{sym, ◌∙◌}
use native.Mathlib.Omega.{arith}
use Rattle.padding.proofs.Powers.{padded-pow, padded-fixed}
use Rattle.fwht.proofs.Spans.{fwht-other, spanned-length, spanned-positive, spanned-blocks, spanned-some, spanned-more, spanned-end}
use Rattle.fwht.proofs.fwht.Goals as goal

pub returns-then-padded_dim-n : goal.returns-then-padded_dim-n
returns-then-padded_dim-n c = sym (fwht-other _ _ _ _ (λ k e. c.if-padded_dim-n.true (c.padded_dim.ensures ∙ padded-pow _ k e (omega arith))))

pub first_spans-h-requires : goal.first_spans-h-requires
first_spans-h-requires c = padded-fixed _ (omega arith) (sym c.padded_dim.ensures ∙ c.if-padded_dim-n.false)

pub over_blocks-requires : goal.over_blocks-requires
over_blocks-requires c =
    let s = c.loop-h.invariant in
    record { whole = spanned-blocks _ _ _ _ _ _ s 1 (omega arith); some = spanned-some _ _ _ _ _ _ s 1 (omega arith) }

pub loop-h-preserved : goal.loop-h-preserved
loop-h-preserved c =
    let s = c.loop-h.invariant in
    spanned-more _ _ _ _ _ _ s 1 (omega (arith, spanned-length _ _ _ _ _ _ s)) _ c.over_blocks.ensures

pub over_blocks-requires-then-h-n : goal.over_blocks-requires-then-h-n
over_blocks-requires-then-h-n c =
    let s = c.loop-h.invariant in
    record { whole = spanned-blocks _ _ _ _ _ _ s 0 (omega arith); some = spanned-some _ _ _ _ _ _ s 0 (omega arith) }

pub returns-then-h-n : goal.returns-then-h-n
returns-then-h-n c =
    let s = c.loop-h.invariant in
    spanned-end _ _ _ _ _ _ (spanned-more _ _ _ _ _ _ s 0 (omega arith) _ c.over_blocks-then-h-n.ensures) (omega (arith, spanned-positive _ _ _ _ _ _ s))

pub returns-else-h-n : goal.returns-else-h-n
returns-else-h-n c =
    let s = c.loop-h.invariant in
    spanned-end _ _ _ _ _ _ s (omega (arith, spanned-positive _ _ _ _ _ _ s))
