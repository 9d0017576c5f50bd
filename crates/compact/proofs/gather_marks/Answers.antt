use mathlib.Core.Path.{◌∙◌}
use Rattle.marks.specs.Live.{marks_in}
use Rattle.marks.proofs.Words.{first_marks}
use Rattle.held_order.proofs.Writing.{in_place}
use Rattle.compact.proofs.gather_marks.Goals as goal

pub returns-clause-held_after : goal.returns-clause-held_after
returns-clause-held_after c =
    c.restore_order.ensures ∙ in_place _ _ _ _ c.requires.n_in_bounds.1 c.requires.downward.0.many

pub returns-clause-alive_after : goal.returns-clause-alive_after
returns-clause-alive_after c = c.mark_live.ensures ∙ first_marks c.args.n (marks_in c.args.alive.now) c.requires.n_in_bounds.0
