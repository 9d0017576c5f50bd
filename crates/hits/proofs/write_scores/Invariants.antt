use mathlib.Core.Path.{◌≡◌}
use mathlib.Core.List.{map}
use Prim.Native.Nat.{◌≤◌}
use lib.ListN.{length, get_or}
use Rattle.pattern.specs.Binary32.{+0}
use Rattle.lists.proofs.Laws.{begun}
use Rattle.hits.proofs.write_scores.Given as goal

-- `hits::write_scores` meets its contract: the scores of the first i slots are in their places.
abbrev pub invariant-loop-i : goal.invariant-loop-i
invariant-loop-i l = (l.i ≤ length l.slots) × (length l.scores ≡ length l.initial.scores) × (l.scores ≡ begun (map (λ s. get_or l.all s +0) l.slots) l.initial.scores l.i)
