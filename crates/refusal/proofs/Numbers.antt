-- Each refusal has a number of its own, and none has 0: so an answer is determined by its number.
use mathlib.Core.Path.{◌≡◌, refl, sym, ap, ◌∙◌}
use Rattle.std.proofs.Common.{arith, ℕ, ◌<◌, List, [], ◌∷◌, get_or}
use Rattle.std.specs.Prelude.{Result, Ok, Err}
use Rattle.refusal.specs.declared.Refusal.{Refusal}
use Rattle.refusal.specs.Refusal.{number_of, fault_of}

pub above_0 : (r : Refusal) → 0 < number_of r
above_0 Refusal.Length = omega arith
above_0 Refusal.ZeroOrNan = omega arith
above_0 Refusal.Infinite = omega arith
above_0 Refusal.Dims = omega arith
above_0 Refusal.Width = omega arith
above_0 Refusal.SlotsInUse = omega arith
above_0 Refusal.ResidualWidth = omega arith
above_0 Refusal.Full = omega arith
above_0 Refusal.NoSlot = omega arith
above_0 Refusal.NoCascade = omega arith
above_0 Refusal.ScoreNan = omega arith
above_0 Refusal.Misfit = omega arith
above_0 Refusal.EndsEarly = omega arith
above_0 Refusal.NotVecq = omega arith
above_0 Refusal.Version = omega arith
above_0 Refusal.FileDims = omega arith
above_0 Refusal.FileWidth = omega arith
above_0 Refusal.KeyEntry = omega arith
above_0 Refusal.TooLarge = omega arith
above_0 Refusal.MustStay = omega arith

-- the refusals at the places of their numbers, any at the two numbers that none has
refusals : List Refusal
refusals =
    Refusal.Misfit ∷ Refusal.Length ∷ Refusal.ZeroOrNan ∷ Refusal.Infinite ∷ Refusal.Dims ∷ Refusal.Width ∷ Refusal.SlotsInUse ∷ Refusal.ResidualWidth ∷ Refusal.Full ∷ Refusal.NoSlot ∷ Refusal.Misfit ∷ Refusal.NoCascade ∷ Refusal.ScoreNan ∷ Refusal.Misfit ∷ Refusal.EndsEarly ∷ Refusal.NotVecq ∷ Refusal.Version ∷ Refusal.FileDims ∷ Refusal.FileWidth ∷ Refusal.KeyEntry ∷ Refusal.TooLarge ∷ Refusal.MustStay ∷ []

by_number : ℕ → Refusal
by_number n = get_or refusals n Refusal.Misfit

number-back : (r : Refusal) → by_number (number_of r) ≡ r
unfolding refusals by_number
number-back Refusal.Length = refl
number-back Refusal.ZeroOrNan = refl
number-back Refusal.Infinite = refl
number-back Refusal.Dims = refl
number-back Refusal.Width = refl
number-back Refusal.SlotsInUse = refl
number-back Refusal.ResidualWidth = refl
number-back Refusal.Full = refl
number-back Refusal.NoSlot = refl
number-back Refusal.NoCascade = refl
number-back Refusal.ScoreNan = refl
number-back Refusal.Misfit = refl
number-back Refusal.EndsEarly = refl
number-back Refusal.NotVecq = refl
number-back Refusal.Version = refl
number-back Refusal.FileDims = refl
number-back Refusal.FileWidth = refl
number-back Refusal.KeyEntry = refl
number-back Refusal.TooLarge = refl
number-back Refusal.MustStay = refl

pub same-number : (r s : Refusal) → number_of r ≡ number_of s → r ≡ s
same-number r s e = sym (number-back r) ∙ ap by_number e ∙ number-back s

-- the answer of a test
pub same-fault : (r s : Result Unit Refusal) → fault_of r ≡ fault_of s → r ≡ s
same-fault (Ok x) (Ok y) e = refl
same-fault (Ok x) (Err s) e = absurd (omega (arith, e, above_0 s))
same-fault (Err r) (Ok y) e = absurd (omega (arith, e, above_0 r))
same-fault (Err r) (Err s) e = ap Err (same-number r s e)
