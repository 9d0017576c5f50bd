use Rattle.std.proofs.Common.{◌≡◌, ◌-◌, ◌≤◌, length, IfSome}
use Rattle.streams.specs.Streams.{Passed}
use Rattle.streams.proofs.pass.Given as goal

abbrev pub invariant-loop-came : goal.invariant-loop-came
invariant-loop-came g l = record {
  size : length l.buf ≡ 65536;
  within : l.came ≤ l.n;
  bytes : IfSome (g.R.Read.remaining l.initial.from) (λ xs. Passed l.came l.came xs (g.R.Read.remaining l.from) (g.W.Write.contents l.initial.to) (g.W.Write.contents l.to));
}

abbrev pub decreases-loop-came : goal.decreases-loop-came
decreases-loop-came g l = l.n - l.came
