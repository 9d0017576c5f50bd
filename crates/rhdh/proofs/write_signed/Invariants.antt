use Rattle.rhdh.proofs.Written.{Written}
use Rattle.rhdh.proofs.write_signed.Given as goal

-- `rhdh::write_signed` meets its contract: one more entry a turn.
abbrev pub invariant-loop-i : goal.invariant-loop-i
invariant-loop-i l = Written l.v l.seed l.initial.out l.out l.stream.state l.i
