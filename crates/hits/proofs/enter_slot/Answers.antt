use Rattle.std.proofs.Common.{◌∙◌}
use mathlib.Core.Path.{refl, sym}
use lib.ListN.{get_or}
use lib.Seq.{set-get_or}
use lib.Ieee.{nan, of_bits}
use Rattle.hits.proofs.Entering.{enters-not, enters-nan, enters-score}
use Rattle.hits.proofs.enter_slot.Goals as goal

pub returns-then-not-marked : goal.returns-then-not-marked
unfolding of_bits
returns-then-not-marked c =
    λ marks e.
    let a = c.args in
    enters-not (λ i. get_or a.all.now i nan) marks a.slot a.all.now _ a.orders.now _ (sym e ∙ c.if-not-marked.true) refl refl

pub returns-then-is_nan : goal.returns-then-is_nan
returns-then-is_nan c =
    λ marks e.
    let a = c.args in
    enters-nan (λ i. get_or a.all.now i nan) marks a.slot a.all.now _ a.orders.now _ (sym e ∙ c.if-not-marked.false) (sym c.if-is_nan.ensures.value)

pub returns : goal.returns
returns c =
    λ marks e.
    let a = c.args in
    enters-score (λ i. get_or a.all.now i nan) marks a.slot a.all.now _ a.orders.now _ (sym e ∙ c.if-not-marked.false) (sym c.if-is_nan.ensures.value) (sym (set-get_or a.all.now a.slot nan)) _ c.order_number.ensures refl
