-- Lists of any type: what passes a test, how many do, and what holds of each entry.
use Rattle.std.specs.Prelude.{Bool, true, false, cond, ◌&&◌, ◌||◌, List, [], ◌∷◌, ℕ, suc, ◌+◌, ◌-◌, length, drop}

abbrev pub bit : Bool → ℕ
bit true = 1
bit false = 0

unfoldable pub every : List Bool → Bool
every [] = true
every (t ∷ ts) = t && every ts

unfoldable pub all : {A : Type 0} → (A → Bool) → List A → Bool
all p [] = true
all p (x ∷ xs) = p x && all p xs

unfoldable pub any : {A : Type 0} → (A → Bool) → List A → Bool
any p [] = false
any p (x ∷ xs) = p x || any p xs

module _ {X : Type 0} where
  -- those that pass the test, in their order
  abbrev pub keep : (X → Bool) → List X → List X
  keep p [] = []
  keep p (x ∷ xs) = cond (p x) (x ∷ keep p xs) (keep p xs)

  -- how many pass the test
  abbrev pub count : (X → Bool) → List X → ℕ
  count p [] = 0
  count p (x ∷ xs) = bit (p x) + count p xs

  -- P holds of each entry
  abbrev pub Each : (X → Type 0) → List X → Type 0
  Each P [] = Unit
  Each P (x ∷ xs) = P x × Each P xs

  -- the last n
  abbrev pub last : ℕ → List X → List X
  last n xs = drop (length xs - n) xs

  -- each with its number, from s on
  abbrev pub numbered : ℕ → List X → List (ℕ × X)
  numbered s [] = []
  numbered s (x ∷ xs) = (s, x) ∷ numbered (suc s) xs
