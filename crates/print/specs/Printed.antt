-- How an answer is printed into a lent buffer. `sets d at bytes` is d with the bytes from the place `at` on, as far as d reaches.
use Rattle.std.specs.Prelude.{◌≡◌, List, ℕ, ◌+◌, min, length}
use Rattle.std.proofs.lemmas.List.Edits.{sets}

-- d after the bytes were printed from the place `at` on, and the place after them: what has no room is cut off
pub record Prints (d : List ℕ) (at : ℕ) (bytes : List ℕ) (after : List ℕ) (next : ℕ) : Type 0 where
  pub text : after ≡ sets d at bytes
  pub place : next ≡ min (at + length bytes) (length d)
