use mathlib.Core.Path.{sym, ◌∙◌}
use Rattle.scan.proofs.Steps.{entry-unmarked}
use Rattle.scan.proofs.Tabled.group_entry.Goals as goal

pub returns-then-not-is_set : goal.returns-then-not-is_set
returns-then-not-is_set c = entry-unmarked _ _ _ _ (sym (c.requires.lives.each _ c.requires.arrays.2) ∙ sym c.is_set.ensures ∙ c.if-not-is_set.true)
