use mathlib.Core.Path.{◌≡◌}
use Rattle.held.specs.Held.{held_count}
use Rattle.held.proofs.count_slots.Given as goal

abbrev pub invariant-loop-slot : goal.invariant-loop-slot
invariant-loop-slot l = l.many ≡ held_count l.keys l.keyed l.slot l.key
