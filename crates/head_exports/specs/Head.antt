-- What the head of a file states, for C and Rust: 01, "format.rs, byte form", its fields as the index's Read.antt reads them.
use Rattle.std.specs.Prelude.{cond, List, [], ◌∷◌, ℕ, eqb}
use Rattle.lists.specs.Keep.{bit}
use Rattle.index.specs.Read.{version_in, header_in, count_in, head_fault}
use Rattle.words.specs.Put.{Put, put, put_words}

-- the version, the fields of the header in their order, a flag as 0 or 1, and how many slots the file has
unfoldable pub head_words : (file : List ℕ) → List ℕ
head_words file =
    let h = header_in file in
    version_in file ∷ h.dim ∷ h.working_dim ∷ h.seed ∷ h.bits ∷ bit h.residual ∷ count_in file ∷ []

-- As in reading, what the file says comes before the places: its refusal, 14 to 18, with no word written, else the words, or 13 where there are too few places.
unfoldable pub put_head : (file answer : List ℕ) → Put
put_head file ws = cond (eqb (head_fault file) 0) (put_words 0 (head_words file) ws) (put (head_fault file) ws)
