-- The record of an index as words of 64 bits, for C and Rust: its eight fields in their order, a flag as 0 or 1.
use Rattle.std.specs.Prelude.{Bool, cond, ◌&&◌, List, [], ◌∷◌, ℕ, length, get_or, leb, ltb, eqb, Option, Some, None}
use Rattle.lists.specs.Keep.{bit}
use Rattle.index.specs.declared.Index.{Index}

-- how many words that is
abbrev pub record_words : ℕ
record_words = 8

unfoldable pub words_of : Index → List ℕ
words_of x = x.dim ∷ x.working_dim ∷ x.seed ∷ x.bits ∷ bit x.residual ∷ x.n ∷ x.live ∷ bit x.cascade ∷ []

unfoldable pub fields_in : (words : List ℕ) → Index
fields_in ws =
    record {
      dim = get_or ws 0 0;
      working_dim = get_or ws 1 0;
      seed = get_or ws 2 0;
      bits = get_or ws 3 0;
      residual = eqb (get_or ws 4 0) 1;
      n = get_or ws 5 0;
      live = get_or ws 6 0;
      cascade = eqb (get_or ws 7 0) 1;
    }

-- bits is a byte, the flags are flags; every word is a value of the other fields' types
abbrev pub typed : (bits residual cascade : ℕ) → Bool
typed b r c = leb b 255 && leb r 1 && leb c 1

-- what words say: a record, or none
abbrev pub Record : Type 0
Record = Option Index

-- the record that the first words say; none where there are fewer, or where one is no value of its field's type
unfoldable pub record_in : (words : List ℕ) → Record
record_in ws = cond (leb record_words (length ws) && typed (get_or ws 3 0) (get_or ws 4 0) (get_or ws 7 0)) (Some (fields_in ws)) None

-- of a call that answers so many words at most: none also where there are fewer places for them
unfoldable pub record_beside : (places : ℕ) → (words answer : List ℕ) → Record
record_beside p ws answer = cond (ltb (length answer) p) None (record_in ws)
