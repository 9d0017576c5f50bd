-- What the first k entries of a key table give to slots. That this is what reading says (`key_from` of the index) where no slot comes twice: law `keys-are` of proofs/Keys.antt.
use Rattle.std.specs.Prelude.{Bool, cond, List, ℕ, zero, suc, eqb}
use Rattle.std.proofs.Math.Option.{Option, none, some}
use Rattle.lists.specs.Lists.{tab}
use Rattle.index.specs.State.{has_key, key_word}
use Rattle.index.specs.Read.{KeyEntry, entry_from, mark_from}

-- the slots that the entries name
unfoldable pub slots_from : (table : List ℕ) → (k : ℕ) → List ℕ
slots_from table k = tab (λ i. (entry_from table i).slot) k

-- the key of the last entry that names the slot
unfoldable pub key_by : (entry : ℕ → KeyEntry) → (k : ℕ) → (slot : ℕ) → Option ℕ
key_by entry zero s = none
key_by entry (suc i) s = cond (eqb (entry i).slot s) (some (entry i).key) (key_by entry i s)

-- what `keys` and `keyed` hold of it
abbrev pub word_from : (table : List ℕ) → (k : ℕ) → (slot : ℕ) → ℕ
word_from table k s = key_word (mark_from (key_by (entry_from table) k s))

abbrev pub on_from : (table : List ℕ) → (k : ℕ) → (slot : ℕ) → Bool
on_from table k s = has_key (mark_from (key_by (entry_from table) k s))
