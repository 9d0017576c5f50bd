use Rattle.std.proofs.Common.{◌≡◌, ◌-◌, ◌≤◌, length, IfSome}
use Rattle.conversion.specs.Stream.{HalvesPassed}
use Rattle.conversion.proofs.pass_scales.Given as goal

abbrev pub invariant-loop-done : goal.invariant-loop-done
invariant-loop-done g l = record {
  sizes : (length l.scales ≡ 65536) × (length l.halves ≡ 32768);
  within : l.done ≤ l.n;
  few : l.changed ≤ l.done;
  bytes : IfSome (g.R.Read.remaining l.initial.from) (λ xs. HalvesPassed l.done l.changed xs (g.R.Read.remaining l.from) (g.W.Write.contents l.initial.to) (g.W.Write.contents l.to));
}

abbrev pub decreases-loop-done : goal.decreases-loop-done
decreases-loop-done g l = l.n - l.done
