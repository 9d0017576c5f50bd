-- Document 02, Req 02: "The live count is the count of ones."
use Rattle.std.specs.Prelude.{◌≡◌, true, List, ℕ, ◌^◌, ◌<◌, length, get_or}
use Rattle.std.specs.Int.Count.{ones}
use Rattle.lists.specs.Lists.{tab, total}
use Rattle.marks.specs.Live.{marks_in}
use Rattle.index.specs.declared.Index.{Index}
use Rattle.index.specs.Arrays.{Arrays}
use Rattle.index.specs.Fit.{fit}

-- the ones of all words
abbrev pub total_ones : (words : List ℕ) → ℕ
total_ones ws = total (tab (λ i. ones (get_or ws i 0)) (length ws))

-- of a record and arrays that fit it is the count over all lent words. Law `live-ones` of proofs/Ones.antt.
abbrev pub LiveIsOnes : Type 0
LiveIsOnes = (x : Index) (a : Arrays) (words : List ℕ) → ((i : ℕ) → get_or words i 0 < 2 ^ 64) → a.alive ≡ marks_in words → fit x a ≡ true →
    x.live ≡ total_ones words
