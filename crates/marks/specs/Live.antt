-- Live marks: document 02, Req 02, "Hold them 64 to a 64-bit word, slot s at bit s modulo 64 of word s divided by 64."
use Rattle.std.specs.Prelude.{Bool, List, ℕ, ◌*◌, ◌/◌, ◌%◌, length, get_or, ltb}
use Rattle.lists.specs.Lists.{tab}
use Rattle.digits.specs.Digits.{bit_of}

-- the mark of a slot: 1 live, 0 dead. Past the last word it is 0.
abbrev pub mark_in : (words : List ℕ) → (slot : ℕ) → ℕ
mark_in ws s = bit_of (get_or ws (s / 64) 0) (s % 64)

-- the marks that words hold, one a slot. They tell the words: law `marks-tell`.
unfoldable pub marks_in : (words : List ℕ) → List ℕ
marks_in ws = tab (mark_in ws) (length ws * 64)

-- whether a slot is live by marks, one a slot: document 01, "Only live slots are written". Past the end a slot is dead. Of the marks of a cascade's
-- candidates, which are held alike, it says whether a slot is one.
abbrev pub live_at : (marks : List ℕ) → (slot : ℕ) → Bool
live_at marks i = ltb 0 (get_or marks i 0)

-- as many marks, none of them set
abbrev pub no_marks : List ℕ → List ℕ
no_marks marks = tab (λ i. 0) (length marks)
