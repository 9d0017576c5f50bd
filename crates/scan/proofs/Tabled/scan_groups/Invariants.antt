use Prim.Native.Nat.{◌*◌}
use Rattle.std.specs.Prelude.{min}
use Rattle.marks.specs.Live.{marks_in}
use Rattle.scan.specs.Scan.{score_now}
use Rattle.scan.specs.Groups.{score_by, Rescored}
use Rattle.scan.proofs.Tabled.scan_groups.Given as goal

abbrev pub invariant-loop-group : goal.invariant-loop-group
invariant-loop-group l =
    let t = l.self in
    Rescored (score_now (score_by t.of.bits t.evens.now t.odds.now t.pairs.now t.of.query.now t.of.size t.of.codes.now t.of.scales.now) (marks_in t.of.marks.now) t.of.second)
    0 (min (l.group * 64) t.of.n) l.initial.all l.all
