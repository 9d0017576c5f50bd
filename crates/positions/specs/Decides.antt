-- What a yes or no says.
use Rattle.std.specs.Prelude.{◌≡◌, Bool, true, false}

-- b is true only where P holds, and false only where Q does not
pub record Shows (b : Bool) (P Q : Type 0) : Type 0 where
  pub yes : b ≡ true → P
  pub no : b ≡ false → Q → ⊥

-- b says whether P holds, with no false answer either way
abbrev pub Decides : Bool → Type 0 → Type 0
Decides b P = Shows b P P
