use Prim.Native.Nat.{◌+◌}
use Rattle.marks.specs.Live.{marks_in}
use Rattle.scan.specs.Scan.{stage_of, score_now}
use Rattle.scan.specs.Groups.{Rescored}
use Rattle.scan.proofs.Stage.plain_group.Given as goal

abbrev pub invariant-loop-k : goal.invariant-loop-k
invariant-loop-k l =
    let s = l.self in
    Rescored (λ k. score_now (stage_of s.bits s.centroids.now s.query.now s.size s.codes.now s.scales.now) (marks_in s.marks.now) s.second (l.first + k)) 0 l.k l.initial.score-items l.score-items
