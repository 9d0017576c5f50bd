use Prim.Native.Nat.{◌*◌}
use Rattle.std.specs.Prelude.{min}
use Rattle.marks.specs.Live.{marks_in}
use Rattle.scan.specs.Scan.{stage_of, score_now}
use Rattle.scan.specs.Groups.{Rescored}
use Rattle.scan.proofs.Stage.scan_plainly.Given as goal

abbrev pub invariant-loop-group : goal.invariant-loop-group
invariant-loop-group l =
    let s = l.self in
    Rescored (score_now (stage_of s.bits s.centroids.now s.query.now s.size s.codes.now s.scales.now) (marks_in s.marks.now) s.second) 0 (min (l.group * 64) s.n) l.initial.all l.all
