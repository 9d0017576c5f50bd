-- What a slot stores of one coding of a vector.
use Rattle.std.specs.Prelude.{List, ℕ}

-- a scale as a binary32 pattern, and the block of code bytes
pub record Stage : Type 0 where
  pub scale : ℕ
  pub block : List ℕ

abbrev pub stage : (scale : ℕ) → (block : List ℕ) → Stage
stage scale block = record { scale = scale; block = block }
