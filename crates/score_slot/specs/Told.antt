-- Document 01: "the answer carries either the score or the refusal number".
use Rattle.std.specs.Prelude.{Result, Ok, Err}
use Rattle.refusal.specs.declared.Refusal.{Refusal}
use Rattle.refusal.specs.Refusal.{number_of}
use Rattle.score.specs.declared.Scored.{Scored}

abbrev pub told : Result Scored Refusal → Scored
told (Ok s) = s
told (Err r) = Scored.Refused (number_of r)
