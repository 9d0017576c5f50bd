-- What converting a stream does. `xs` are the bytes that the reader had left, where it knows them.
use Rattle.std.specs.Prelude.{◌≡◌, ⊤, ℕ, ◌*◌, ◌≤◌, ◌<◌, List, Option, None, Some, Result, Ok, Err, length, take, drop}
use Rattle.std.specs.Io.KnownBytes.{Appends}
use Rattle.refusal.specs.Refusal.{number_of}
use Rattle.streams.specs.declared.Stopped.{Stopped}
use Rattle.streams.specs.declared.Stopped.TheVariants.{Refused, Failed}
use Rattle.conversion.specs.Old.{old_head_fault}
use Rattle.conversion.specs.Scales.{halves_of, changes_in}
use Rattle.conversion.specs.Converted.{conversion_refusal, changed_scales}

-- The head is sound, and the reader has what follows it left.
pub record Headed (file head : List ℕ) (left : Option (List ℕ)) : Type 0 where
  pub sound : old_head_fault file ≡ 0
  pub long : 24 ≤ length file
  pub first : head ≡ take 24 file
  pub rest : left ≡ Some (drop 24 file)

-- the first 24 bytes, or the refusal that they give
abbrev pub HeadTold : (file : List ℕ) → Result (List ℕ) Stopped → (left : Option (List ℕ)) → Type 0
HeadTold file (Ok head) left = Headed file head left
HeadTold file (Err (Refused r)) left = old_head_fault file ≡ number_of r
HeadTold file (Err (Failed e)) left = ⊤

-- The first n scales went to the writer as halves, and so many of them changed. The reader has the rest left.
pub record HalvesPassed (n changed : ℕ) (xs : List ℕ) (left held holds : Option (List ℕ)) : Type 0 where
  pub enough : n * 4 ≤ length xs
  pub count : changed ≡ changes_in (take (n * 4) xs)
  pub rest : left ≡ Some (drop (n * 4) xs)
  pub sent : Appends held holds (halves_of (take (n * 4) xs))

-- so many changed; or the input ended before n scales came
abbrev pub ScalesPassed : (n : ℕ) → Option ℕ → (xs : List ℕ) → (left held holds : Option (List ℕ)) → Type 0
ScalesPassed n None xs left held holds = length xs < n * 4
ScalesPassed n (Some changed) xs left held holds = HalvesPassed n changed xs left held holds

-- what is answered of a file: the file alone decides. Of a read or a write that failed nothing is said
abbrev pub Answers : (file : List ℕ) → Result ℕ Stopped → Type 0
Answers file (Ok changed) = (conversion_refusal file ≡ 0) × (changed ≡ changed_scales file)
Answers file (Err (Refused r)) = conversion_refusal file ≡ number_of r
Answers file (Err (Failed e)) = ⊤
