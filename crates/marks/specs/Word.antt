-- One word of marks: a bit of it changed, which is what marking a slot does, its bits by a test, and the words of marks of which the first are set.
use Rattle.std.specs.Prelude.{◌≡◌, ◌≢◌, Bool, List, ℕ, ◌+◌, ◌-◌, ◌*◌, ◌^◌, ◌<◌, min, get_or, ltb}
use Rattle.lists.specs.Keep.{bit}
use Rattle.digits.specs.Digits.{bit_of}
use Rattle.marks.specs.Live.{live_at}

pub record BitSet (word j value next : ℕ) : Type 0 where
  pub here : bit_of next j ≡ value
  pub others : (k : ℕ) → k ≢ j → bit_of next k ≡ bit_of word k

-- whether a word says that the j-th of its slots is live
abbrev pub live_in : (word j : ℕ) → Bool
live_in w j = ltb 0 (bit_of w j)

-- a word says which of the 64 slots from `first` on are live
pub record Lives (marks : List ℕ) (first word : ℕ) : Type 0 where
  pub each : (j : ℕ) → j < 64 → live_in word j ≡ live_at marks (first + j)

-- 64 bytes say which bits of a word are set
pub record Spread (word : ℕ) (bytes : List ℕ) : Type 0 where
  pub each : (j : ℕ) → j < 64 → ltb 0 (get_or bytes j 0) ≡ live_in word j

-- a word has a bit for each number below n, which says whether p holds of it, and no other
pub record Bits (p : ℕ → Bool) (n word : ℕ) : Type 0 where
  pub small : word < 2 ^ n
  pub are : (j : ℕ) → j < n → bit_of word j ≡ bit (p j)

-- word i of marks of which the first n are set
abbrev pub first_word : (n i : ℕ) → ℕ
first_word n i = 2 ^ min 64 (n - i * 64) - 1
