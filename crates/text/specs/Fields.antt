-- The fields of a line, as the language of the program `exercise` has them: "a command word and its fields, parted by single blanks".
use Rattle.std.specs.Prelude.{◌≡◌, refl, ℕ, ◌<◌, Bool, ◌||◌, List, [], ◌∷◌, Option, MatchOption, eqb, length, get_or}
use Rattle.std.specs.Borrow.{Bor}
use Rattle.std.specs.List.{slice_split, slice_index_or}

-- the fields, in order: an empty line has one, which is empty
abbrev pub fields : List ℕ → List (List ℕ)
fields line = slice_split (λ b. eqb b 32) line

-- field i, counted from 0: empty where the line has no such field
abbrev pub field_at : List ℕ → ℕ → List ℕ
field_at line i = get_or (fields line) i []

-- "An empty line is answered with an empty line; so is a line that begins with `#`."
abbrev pub is_silent : List ℕ → Bool
is_silent line = eqb (length line) 0 || eqb (get_or line 0 0) 35

-- the word stands at none of the first n places of the table
pub record NoneBefore {T : Type 0} (table : List (Bor (List ℕ) × T)) (word : List ℕ) (n : ℕ) : Type 0 where
  pub clean : (k : ℕ) (d : Bor (List ℕ) × T) → k < n → (slice_index_or table k d).0.now ≡ word → ⊥

-- v stands beside the word's first place in the table
pub record FirstAt {T : Type 0} (table : List (Bor (List ℕ) × T)) (word : List ℕ) (v : T) : Type 0 where
  pub place : ℕ
  pub inside : place < length table
  pub here : (d : Bor (List ℕ) × T) → ((slice_index_or table place d).0.now ≡ word) × ((slice_index_or table place d).1 ≡ v)
  pub before : NoneBefore table word place

-- what stands beside the word's first place in the table; none where it has no place there
abbrev pub Named : {T : Type 0} → List (Bor (List ℕ) × T) → List ℕ → Option T → Type 0
Named table word found = MatchOption found (NoneBefore table word (length table)) (FirstAt table word)

-- worked by hand: `ab  c` has three fields, the second of them empty
worked : fields (97 ∷ 98 ∷ 32 ∷ 32 ∷ 99 ∷ []) ≡ (97 ∷ 98 ∷ []) ∷ [] ∷ (99 ∷ []) ∷ []
worked = refl
