use Prim.Native.Nat.{◌*◌}
use Rattle.marks.specs.Live.{marks_in}
use Rattle.scan.specs.Groups.{part_at, wide_lanes, Summed}
use Rattle.scan.proofs.Tabled.sum_wide.Given as goal

abbrev pub invariant-loop-half : goal.invariant-loop-half
invariant-loop-half l =
    Summed 4 (λ i. wide_lanes l.self.of.bits l.self.pairs.now l.self.of.query.now (part_at l.self.of.size i l.self.of.codes.now)) (marks_in l.self.of.marks.now) l.first l.many (l.half * 2) l.sums
