-- What the test of refusal 13 answers, of a record and arrays that fit or don't.
use Rattle.std.specs.Prelude.{◌≡◌, Bool, true, false, Result, Ok, Err}
use Rattle.refusal.specs.declared.Refusal.{Refusal}
use Rattle.refusal.specs.declared.Refusal.TheVariants.{Misfit}

abbrev pub Tested : (fits : Bool) → Result Unit Refusal → Type 0
Tested b (Ok u) = b ≡ true
Tested b (Err r) = (b ≡ false) × (r ≡ Misfit)
