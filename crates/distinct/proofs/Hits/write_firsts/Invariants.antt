use Rattle.distinct.proofs.Writing.{Writing}
use Rattle.distinct.proofs.Hits.write_firsts.Given as goal

abbrev pub invariant-loop-i : goal.invariant-loop-i
invariant-loop-i l =
    Writing l.self.keys.now l.self.keyed.now l.self.slots.now l.self.scores.now l.before l.n l.initial.names l.initial.scores l.many l.names l.scores l.i
