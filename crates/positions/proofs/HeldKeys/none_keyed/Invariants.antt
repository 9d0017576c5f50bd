use Rattle.positions.specs.Decides.{Decides}
use Rattle.positions.specs.Positions.{NoneKeyed}
use Rattle.positions.proofs.HeldKeys.none_keyed.Given as goal

abbrev pub invariant-loop-keyed : goal.invariant-loop-keyed
invariant-loop-keyed l = Decides l.none (NoneKeyed l.self.keyed.now l.keyed-index)
