use Rattle.std.proofs.Common.{rules, tests}
use mathlib.Core.Path.{sym, ◌∙◌}
use Rattle.make.proofs.Making.{fault-4, fault-13, fault-none, fresh-room}
use Rattle.make.proofs.check.Goals as goal

pub returns-then-not-contains : goal.returns-then-not-contains
returns-then-not-contains c = fault-4 _ _ (search (rules, tests))

pub returns-then-capacity-eq0 : goal.returns-then-capacity-eq0
returns-then-capacity-eq0 c =
    let room = fresh-room _ _ _ _ _ _ _ c.fresh-index.ensures c.capacity.ensures in
    fault-13 _ _ (search (rules, tests)) (sym room ∙ c.if-capacity-eq0.true)

pub returns : goal.returns
returns c =
    let room = fresh-room _ _ _ _ _ _ _ c.fresh-index.ensures c.capacity.ensures in
    fault-none _ _ (search (rules, tests)) (λ z. c.if-capacity-eq0.false (room ∙ z))
