-- What a stage makes of the array of scores.
use Rattle.std.specs.Prelude.{List, Float}
use Rattle.marks.specs.Live.{marks_in}
use Rattle.scan.specs.declared.Stage.{Stage}
use Rattle.scan.specs.Scan.{stage_of, score_now}
use Rattle.scan.specs.Groups.{Rescored}

-- the entries of the slots below n have become what the stage's scores make of them; the others stay
abbrev pub Scores : Stage → (all next : List Float) → Type 0
Scores s all next =
    Rescored (score_now (stage_of s.bits s.centroids.now s.query.now s.size s.codes.now s.scales.now) (marks_in s.marks.now) s.second) 0 s.n all next
