use mathlib.Core.Path.{◌≡◌}
use Prim.Native.Nat.{◌*◌, ◌≤◌}
use Rattle.marks.specs.Live.{marks_in}
use Rattle.fit.specs.Fits.{live_marks}
use Rattle.fit.proofs.live_total.Given as goal

-- `fit::live_total` meets its contract.
abbrev pub invariant-loop-word : goal.invariant-loop-word
invariant-loop-word l = (l.many ≤ l.word-index * 64) × (l.many ≡ live_marks (marks_in l.words) (l.word-index * 64))
