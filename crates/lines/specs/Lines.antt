-- What is handed out of the buffer. What standard input holds no contract can say.
use Rattle.std.specs.Prelude.{◌≡◌, ◌&&◌, cond, List, ℕ, ◌-◌, ◌≤◌, ◌<◌, Bool, Option, Result, Ok, Err, IfSome, IfOk, MatchOption, leb, length, take, drop, get_or}
use Rattle.lines.specs.declared.Span.{Span}
use Rattle.lines.specs.declared.TooLong.{TooLong}

-- the part lies within n bytes
pub record Within (n : ℕ) (s : Span) : Type 0 where
  pub ordered : s.from ≤ s.to
  pub inside : s.to ≤ n

-- no byte from a up to b is a newline
pub record NoNewline (buf : List ℕ) (a b : ℕ) : Type 0 where
  pub clean : (k : ℕ) → a ≤ k → k < b → get_or buf k 0 ≡ 10 → ⊥

abbrev pub no_span : Span
no_span = record { from = 0; to = 0 }

-- the part where it lies within n bytes, else an empty one
abbrev pub clipped : ℕ → Span → Span
clipped n s = cond (leb s.from s.to && leb s.to n) s no_span

-- the bytes of a part
abbrev pub part_of : List ℕ → Span → List ℕ
part_of buf s = take (s.to - s.from) (drop s.from buf)

-- the line from a up to b; one that is too long is passed over
abbrev pub handed : Bool → ℕ → ℕ → Result Span TooLong
handed long a b = cond long (Err (record {})) (Ok (record { from = a; to = b }))

-- the line lies within the buffer, and has no newline in it
pub record Line (buf : List ℕ) (s : Span) : Type 0 where
  pub within : Within (length buf) s
  pub clean : NoNewline buf s.from s.to

-- what is handed out is a line of the buffer, or was passed over
abbrev pub Handed : List ℕ → Option (Result Span TooLong) → Type 0
Handed buf found = IfSome found (λ r. IfOk r (Line buf))

-- a step takes one at least of what is left of the lines and reads, and hands nothing out only at the end, where none is left
pub record GoesOn {A : Type 0} (before left : ℕ) (found : Option A) : Type 0 where
  pub fewer : left ≤ before - 1
  pub ended : MatchOption found (left ≡ 0) (λ _. 0 < left)
