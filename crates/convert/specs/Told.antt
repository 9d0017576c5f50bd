-- What the program leaves of a file: document 02, request 07.
use Rattle.std.specs.Prelude.{◌≡◌, ◌≢◌, ℕ, List, [], ◌∷◌, ◌++◌, Option}
use Rattle.std.specs.Io.KnownBytes.{Appends}
use Rattle.numerals.specs.Numerals.{decimal_text}
use Rattle.streams.specs.Streams.{refused_text}
use Rattle.conversion.specs.Converted.{conversion_refusal, changed_scales, converted}

-- in decimal, and the line's end
abbrev pub count_text : ℕ → List ℕ
count_text n = decimal_text n ++ (10 ∷ [])

-- By the status: 0 where the file was converted and its count told, 3 where it was refused and the number told, without a count. `to` and `errors` are the two outputs before, `to'` and `errors'` after.
pub record Told (file : List ℕ) (status : ℕ) (to to' errors errors' : Option (List ℕ)) : Type 0 where
  pub accepted : status ≡ 0 → conversion_refusal file ≡ 0
  pub written : status ≡ 0 → Appends to to' (converted file)
  pub count : status ≡ 0 → Appends errors errors' (count_text (changed_scales file))
  pub refused : status ≡ 3 → conversion_refusal file ≢ 0
  pub number : status ≡ 3 → Appends errors errors' (refused_text (conversion_refusal file))
