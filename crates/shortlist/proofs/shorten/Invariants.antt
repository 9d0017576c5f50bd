use Rattle.shortlist.proofs.Shortening.{Shortening}
use Rattle.shortlist.proofs.shorten.Given as goal

-- Of the slots so far, those of the shortlist are written.
abbrev pub invariant-loop-slot : goal.invariant-loop-slot
invariant-loop-slot l = Shortening l.orders l.t l.n l.initial.names l.initial.numbers l.names l.numbers l.m l.slot
