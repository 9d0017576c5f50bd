use mathlib.Core.Path.{◌≡◌}
use Prim.Native.Nat.{ℕ, ◌+◌, ◌<◌}
use lib.ListN.{length}
use Rattle.pattern.specs.Binary32.{◌⊗◌}
use Rattle.lloyd.specs.Quantizer.{centroid_at}
use Rattle.quantizer.proofs.squares.Given as goal

-- `quantizer::squares` meets its contract: the codes below `code` have their squares.
abbrev pub invariant-loop-code : goal.invariant-loop-code
invariant-loop-code l = (length l.square-items ≡ l.n + 1) × ((k : ℕ) → k < l.code → centroid_at l.square-items k ≡ centroid_at l.fn.centroids k ⊗ centroid_at l.fn.centroids k)
