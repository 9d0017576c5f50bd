-- The entries among which n are chosen, where at least n are at or above t.
use Rattle.std.specs.Prelude.{Bool, ◌&&◌, ◌||◌, List, ◌++◌, ℕ, take, drop, leb, ltb}
use Rattle.lists.specs.Keep.{keep, numbered}
use Rattle.choose.specs.Falling.{reaches, above}

-- of those at or above t the first n, and of the later ones those above t
unfoldable pub shortlist : {X : Type 0} → (X → ℕ) → ℕ → ℕ → List X → List X
shortlist ord n t xs = take n (keep (reaches ord t) xs) ++ keep (above ord t) (drop n (keep (reaches ord t) xs))

-- of slots, each with its order number
abbrev pub shortened : ℕ → ℕ → List ℕ → List (ℕ × ℕ)
shortened n t orders = shortlist (λ e. e.1) n t (numbered 0 orders)

-- whether a slot comes to be on it, after m others
abbrev pub is_kept : ℕ → ℕ → ℕ → ℕ → Bool
is_kept order t n m = leb t order && (ltb t order || ltb m n)
