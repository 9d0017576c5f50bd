use Rattle.text.specs.Fields.{NoneBefore}
use Rattle.text.proofs.named.Given as goal

abbrev pub invariant-loop-name : goal.invariant-loop-name
invariant-loop-name g l = NoneBefore l.table l.word l.name-index
