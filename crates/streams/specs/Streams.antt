-- What is read into a buffer, what is copied, the line of a refusal, and the status that a program ends with. `xs` are the bytes that the reader had left, where it knows them.
use Rattle.std.specs.Prelude.{◌≡◌, refl, ℕ, min, List, [], ◌∷◌, ◌++◌, length, take, drop, Option, Some, ⊤, codes}
use Rattle.std.specs.Io.KnownBytes.{Appends}
use Rattle.numerals.specs.Numerals.{numeral, decimal_text}
use Rattle.refusal.specs.declared.Refusal.{Refusal}
use Rattle.streams.specs.declared.Stopped.{Stopped}
use Rattle.streams.specs.declared.Stopped.TheVariants.{Refused, Failed}

-- The first bytes stand at the front of the buffer: as many as it holds, or all where there are fewer. The reader has the rest left.
pub record Filled (buf : List ℕ) (got : ℕ) (xs : List ℕ) (left : Option (List ℕ)) : Type 0 where
  pub many : got ≡ min (length buf) (length xs)
  pub bytes : take got buf ≡ take got xs
  pub rest : left ≡ Some (drop got xs)

-- The writer has the first n bytes more, or all where there are fewer. The reader has the rest left.
pub record Passed (n came : ℕ) (xs : List ℕ) (left held holds : Option (List ℕ)) : Type 0 where
  pub many : came ≡ min n (length xs)
  pub rest : left ≡ Some (drop n xs)
  pub sent : Appends held holds (take n xs)

-- `refused`, the number in decimal, and the line's end
abbrev pub refused_text : (number : ℕ) → List ℕ
refused_text n = codes "refused " ++ decimal_text n ++ (10 ∷ [])

-- worked by hand: the refusal 14
worked : refused_text 14 ≡ codes "refused 14\n"
unfolding numeral
worked = refl

abbrev pub IfRefused : Stopped → (Refusal → Type 0) → Type 0
IfRefused (Refused r) P = P r
IfRefused (Failed e) P = ⊤

-- the status of a program that has stopped
abbrev pub status_of : Stopped → ℕ
status_of (Refused r) = 3
status_of (Failed e) = 4
