-- Document 01, "Turned down", and document 02: the number of each refusal.
use Rattle.std.specs.Prelude.{ℕ, Result, Ok, Err}
use Rattle.refusal.specs.declared.Refusal.{Refusal}

abbrev pub number_of : Refusal → ℕ
number_of Refusal.Length = 1
number_of Refusal.ZeroOrNan = 2
number_of Refusal.Infinite = 3
number_of Refusal.Dims = 4
number_of Refusal.Width = 5
number_of Refusal.SlotsInUse = 6
number_of Refusal.ResidualWidth = 7
number_of Refusal.Full = 8
number_of Refusal.NoSlot = 9
number_of Refusal.NoCascade = 11
number_of Refusal.ScoreNan = 12
number_of Refusal.Misfit = 13
number_of Refusal.EndsEarly = 14
number_of Refusal.NotVecq = 15
number_of Refusal.Version = 16
number_of Refusal.FileDims = 17
number_of Refusal.FileWidth = 18
number_of Refusal.KeyEntry = 19
number_of Refusal.TooLarge = 20
number_of Refusal.MustStay = 21

-- the number of an answer: 0 where nothing is turned down
abbrev pub fault_of : {A : Type 0} → Result A Refusal → ℕ
fault_of (Ok a) = 0
fault_of (Err r) = number_of r
