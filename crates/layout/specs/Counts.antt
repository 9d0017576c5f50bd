-- The counts that fix the length of a file: document 01, "Only live slots are written .. in the key entries too", and 02, Req 06, "with one year per live slot".
use Rattle.std.specs.Prelude.{Bool, false, not, ◌&&◌, List, ℕ, ◌+◌, ◌*◌, ◌^◌, ◌<◌, get_or, take, drop, ltb, eqb}
use Rattle.lists.specs.Keep.{count}
use Rattle.lists.specs.Lists.{below}
use Rattle.marks.specs.Live.{live_at}
use Rattle.marks.specs.Word.{live_in}
use Rattle.layout.specs.declared.Counts.{Counts}

-- what a list has of the slots of word i
abbrev pub of_word : {A : Type 0} → List A → (i : ℕ) → List A
of_word xs i = take 64 (drop (i * 64) xs)

-- a slot that has a key entry
abbrev pub entry_at : (keyed : List Bool) → (alive : List ℕ) → (slot : ℕ) → Bool
entry_at keyed alive i = live_at alive i && get_or keyed i false

-- 02, Req 06: not "year 1"
abbrev pub is_dated : (year : ℕ) → Bool
is_dated y = not (eqb y 1)

-- a live slot that has a year other than 1; past the end of `years` there is none
abbrev pub dated_at : (years alive : List ℕ) → (slot : ℕ) → Bool
dated_at years alive i = live_at alive i && is_dated (get_or years i 1)

-- the same of the j-th slot of a word, and of one of which a byte other than 0 says that it is live
abbrev pub entry_in : (keyed : List Bool) → (word : ℕ) → (j : ℕ) → Bool
entry_in keyed word j = live_in word j && get_or keyed j false

abbrev pub dated_in : (years : List ℕ) → (word : ℕ) → (j : ℕ) → Bool
dated_in years word j = live_in word j && is_dated (get_or years j 1)

abbrev pub entry_beside : (keyed : List Bool) → (bits : List ℕ) → (j : ℕ) → Bool
entry_beside keyed bits j = ltb 0 (get_or bits j 0) && get_or keyed j false

abbrev pub dated_beside : (years bits : List ℕ) → (j : ℕ) → Bool
dated_beside years bits j = ltb 0 (get_or bits j 0) && is_dated (get_or years j 1)

-- of the slots of a word
unfoldable pub counts_in : (keyed : List Bool) → (years : List ℕ) → (word : ℕ) → Counts
counts_in keyed years word =
    record { live = count (live_in word) (below 64); keyed = count (entry_in keyed word) (below 64); dated = count (dated_in years word) (below 64) }

-- of the first n slots
unfoldable pub counts_of : (keyed : List Bool) → (years alive : List ℕ) → (n : ℕ) → Counts
counts_of keyed years alive n =
    record { live = count (live_at alive) (below n); keyed = count (entry_at keyed alive) (below n); dated = count (dated_at years alive) (below n) }

-- of some slots and of others
abbrev pub together : (some others : Counts) → Counts
together x y = record { live = x.live + y.live; keyed = x.keyed + y.keyed; dated = x.dated + y.dated }

pub record Summable (some others : Counts) : Type 0 where
  pub live : some.live + others.live < 2 ^ 64
  pub keyed : some.keyed + others.keyed < 2 ^ 64
  pub dated : some.dated + others.dated < 2 ^ 64
