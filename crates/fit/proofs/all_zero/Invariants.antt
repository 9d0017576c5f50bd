use mathlib.Core.Path.{◌≡◌}
use Prim.Native.Nat.{ℕ, ◌<◌}
use lib.ListN.{get_or}
use Rattle.positions.specs.Decides.{Decides}
use Rattle.fit.proofs.all_zero.Given as goal

-- `fit::all_zero` meets its contract.
abbrev pub invariant-loop-word : goal.invariant-loop-word
invariant-loop-word l = Decides l.all ((i : ℕ) → i < l.word-index → get_or l.words i 0 ≡ 0)
