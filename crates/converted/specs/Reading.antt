-- What is read of a converted file, beside what the old reader made of the version 1 file: document 02, request 07.
use Rattle.std.specs.Prelude.{◌≡◌, List, ℕ, ◌≤◌}
use Rattle.std.proofs.Math.Option.{none}
use Rattle.lists.specs.Lists.{tab}
use Rattle.digits.specs.Digits.{Below}
use Rattle.index.specs.Arrays.{Arrays}
use Rattle.index.specs.State.{capacity}
use Rattle.index.specs.File.{Entry, file_of}
use Rattle.index.specs.Read.{count_in, read_into}
use Rattle.conversion.specs.Old.{old_header, old_refusal, old_stage, old_read_into}
use Rattle.conversion.specs.Scales.{rounded}
use Rattle.conversion.specs.Converted.{conversion_refusal, converted}

-- an accepted file, of bytes
pub record Convertible (file : List ℕ) : Type 0 where
  pub bytes : Below 256 file
  pub accepted : conversion_refusal file ≡ 0

-- Whatever arrays are lent: reading the converted file answers and leaves what the old reader did, but with each scale rounded to a half.
abbrev pub ReadsRounded : Type 0
ReadsRounded = (file : List ℕ) → Convertible file → (a : Arrays) → read_into a (converted file) ≡ old_read_into rounded file a

-- The converter turns down what the old reader did whose arrays had room, by the same number.
abbrev pub RefusesAlike : Type 0
RefusesAlike = (file : List ℕ) (a : Arrays) → count_in file ≤ capacity (old_header file) a → old_refusal file a ≡ conversion_refusal file

-- a slot of a version 1 file, without a key or a duty, its scale as it stands
abbrev pub old_entry : (file : List ℕ) → (i : ℕ) → Entry
old_entry file i = record { code = record { first = old_stage (λ x. x) file i; second = none }; key = none; year = 1 }

abbrev pub old_entries : (file : List ℕ) → List Entry
old_entries file = tab (old_entry file) (count_in file)

-- The converted file is the one that an index of these slots is written as.
abbrev pub WrittenAlike : Type 0
WrittenAlike = (file : List ℕ) → Convertible file → converted file ≡ file_of (old_header file) (old_entries file)
