use Rattle.scan.proofs.Kernels.{Summing}
use Rattle.scan.proofs.Tabled.wide_lanes.Given as goal

abbrev pub invariant-loop-group : goal.invariant-loop-group
invariant-loop-group g l = Summing g.row.W l.self.pairs.now l.self.of.query.now l.one l.other l.acc l.acc2 l.group
