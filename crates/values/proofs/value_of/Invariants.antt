use Rattle.std.proofs.Common.{◌≡◌, true, ◌^◌, ◌<◌, drop}
use Rattle.values.specs.Reading.{are_digits, value_after, value_of}
use Rattle.values.proofs.value_of.Given as goal

abbrev pub invariant-loop-b : goal.invariant-loop-b
invariant-loop-b l = (l.v < 16 ^ l.b-index) × (value_after l.v (drop l.b-index l.digits) ≡ value_of l.digits)
