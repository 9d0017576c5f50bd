-- What a call answers, as document 01 has it: what it is asked for, or the number of the refusal.
use Rattle.std.specs.Prelude.{ℕ, Result, Ok, Err}
use Rattle.refusal.specs.declared.Refusal.{Refusal}
use Rattle.refusal.specs.Refusal.{number_of}

pub data Verdict (A : Type 0) : Type 0 where
  granted : A → Verdict A
  turned_down : (number : ℕ) → Verdict A

-- the answer of the code, a refusal by its number
abbrev pub verdict : {A : Type 0} → Result A Refusal → Verdict A
verdict (Ok a) = granted a
verdict (Err r) = turned_down (number_of r)
