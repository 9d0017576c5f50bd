use mathlib.Core.Path.{◌∙◌}
use Rattle.score.specs.Score.{raw_sums, raw_of_block}
use Rattle.kernels.proofs.Fits.{fits, summed, misfit}
use Rattle.kernels.proofs.raw_score.Goals as goal

pub returns-then-not-fitting : goal.returns-then-not-fitting
unfolding raw_of_block
returns-then-not-fitting c = misfit (raw_sums _) _ _ _ _ _ c.fitting.ensures c.if-not-fitting.true

pub invariant_of-block : goal.invariant_of-block
invariant_of-block c =
    let f = fits _ _ _ _ _ c.fitting.ensures c.if-not-fitting.false in
    record { from = f.from; to = f.to; table = f.table; bytes = λ i. (c.type_inv.codes i).fits; size = f.size }

pub returns : goal.returns
unfolding raw_of_block
returns c = c.raw_score.ensures ∙ summed (raw_sums _) _ _ _ _ _ c.fitting.ensures c.if-not-fitting.false
