use Rattle.std.proofs.Common.{◌∙◌}
use Rattle.marks.proofs.Words.{first_marks}
use Rattle.held_order.proofs.Writing.{in_place}
use Rattle.read.proofs.read_marks.Goals as goal

pub returns-clause-held_after : goal.returns-clause-held_after
returns-clause-held_after c = c.restore_order.ensures ∙ in_place _ _ _ _ c.requires.0 c.requires.3

pub returns-clause-alive_after : goal.returns-clause-alive_after
returns-clause-alive_after c = c.mark_live.ensures ∙ first_marks _ _ c.requires.4
