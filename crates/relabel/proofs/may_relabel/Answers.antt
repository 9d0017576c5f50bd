use mathlib.Core.Path.{sym}
use Rattle.relabel.proofs.Tests.{none-held, same_key, other_key}
use Rattle.relabel.proofs.may_relabel.Goals as goal

pub returns-then-held_count-eq0 : goal.returns-then-held_count-eq0
returns-then-held_count-eq0 c = rw (sym c.held_count.ensures) (none-held _ _ _ _ c.if-held_count-eq0.true)

pub returns-then-old-new : goal.returns-then-old-new
returns-then-old-new c = rw (sym c.held_count.ensures) (same_key _ _ _ _ c.if-held_count-eq0.false c.if-old-new.true)

pub returns : goal.returns
returns c =
    rw (sym c.held_count.ensures, sym c.held_count-2.ensures)
    (other_key _ _ _ _ c.if-held_count-eq0.false c.if-old-new.false)
