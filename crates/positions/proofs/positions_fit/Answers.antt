use mathlib.Core.Path.{sym, ◌∙◌}
use Rattle.positions.specs.Ordered.{Ordered}
use Rattle.positions.specs.Lent.{keys_of}
use Rattle.positions.proofs.Decides.{decides-false, holds}
use Rattle.positions.proofs.Slots.{positions-meaning, answer-fits}
use Rattle.positions.proofs.positions_fit.Goals.{then-plain, else-plain}
use Rattle.positions.proofs.positions_fit.Goals as goal

pub returns-then-rise : goal.returns-then-rise
returns-then-rise c =
    let e = c.in-Some.ensures in
    let ordered : Ordered (keys_of c.in-Some.s) c.in-Some.s.n = elim c.if-plain.branch [
      | then-plain w ↦ c.plain.ensures w.if-plain.true
      | else-plain w ↦ w.rise.ensures (sym w.value-is ∙ c.if-rise.true)
    ] in
    rw c.if-rise.true (answer-fits e.0 e.1 c.in-Some.s.room (holds ordered))

pub returns-else-rise : goal.returns-else-rise
returns-else-rise c = let e = c.in-Some.ensures in answer-fits e.0 e.1 c.in-Some.s.room c.in_order.ensures

pub returns-in-None : goal.returns-in-None
returns-in-None c = sym (decides-false (positions-meaning _ _) (λ f. c.in-None.ensures f.0))
