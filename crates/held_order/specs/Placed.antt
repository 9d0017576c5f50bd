-- Positions by entries (an entry is the number of a slot plus 1, and 0 for none: the crate previous).
use Rattle.std.specs.Prelude.{◌≡◌, List, ℕ, zero, suc, ◌<◌, get_or}

-- the position after that of an entry's slot
abbrev pub after_entry : (held : List ℕ) → (entry : ℕ) → ℕ
after_entry held zero = 0
after_entry held (suc j) = suc (get_or held j 0)

-- each of the first n slots holds the position after that of its entry's slot
abbrev pub Placed : (before held : List ℕ) → (n : ℕ) → Type 0
Placed before held n = (j : ℕ) → j < n → get_or held j 0 ≡ after_entry held (get_or before j 0)
