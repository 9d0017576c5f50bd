-- What the test of the marks asks of words.
use Rattle.std.specs.Prelude.{◌≡◌, Bool, true, false, List, ℕ, ◌<◌, length, get_or, ltb}
use Rattle.digits.specs.Digits.{bit_of}

-- all words are 0
abbrev pub AllZero : (words : List ℕ) → Type 0
AllZero ws = (i : ℕ) → get_or ws i 0 ≡ 0

-- the slots of a word: each that has a key has its bit set
abbrev pub WordLive : (keyed : List Bool) (word : ℕ) → Type 0
WordLive keyed w = (j : ℕ) → j < length keyed → get_or keyed j false ≡ true → bit_of w j ≡ 1

-- the same of the first n slots by bytes, each other than 0 where the bit is set
abbrev pub EachSet : (keyed : List Bool) (bits : List ℕ) (n : ℕ) → Type 0
EachSet keyed bits n = (j : ℕ) → j < n → get_or keyed j false ≡ true → ltb 0 (get_or bits j 0) ≡ true
