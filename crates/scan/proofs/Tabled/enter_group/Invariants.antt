use Prim.Native.Nat.{◌+◌, ◌-◌}
use lib.ListN.{get_or}
use lib.Ieee.{binary32, of_bits}
use Rattle.pattern.specs.Binary32.{◌⊗◌}
use Rattle.marks.specs.Live.{marks_in}
use Rattle.scan.specs.Scan.{score_now}
use Rattle.scan.specs.Groups.{raw_from, Rescored}
use Rattle.scan.proofs.Tabled.enter_group.Given as goal

abbrev pub invariant-loop-k : goal.invariant-loop-k
invariant-loop-k l =
    Rescored (λ k. score_now (λ i. raw_from l.self.of.bits l.sums (i - l.first) ⊗ of_bits binary32 (get_or l.self.of.scales.now i 0)) (marks_in l.self.of.marks.now) l.self.of.second (l.first + k))
    0 l.k l.initial.score-items l.score-items
