use Rattle.marks.specs.Live.{marks_in}
use Rattle.scan.specs.Groups.{part_at, byte_lanes, Summed}
use Rattle.scan.proofs.Tabled.sum_bytes.Given as goal

abbrev pub invariant-loop-k : goal.invariant-loop-k
invariant-loop-k l =
    Summed 8 (λ i. byte_lanes l.self.evens.now l.self.odds.now l.self.pairs.now (part_at l.self.of.size i l.self.of.codes.now)) (marks_in l.self.of.marks.now) l.first l.many l.k l.sums
