-- The choice of slots (document 01, store.rs), over any list of things that carry an order number. The list is in slot order.
use Rattle.std.specs.Prelude.{cond, List, [], ◌∷◌, ◌++◌, map, ℕ, ◌-◌, ◌≤◌, ◌<◌, pred, min, max, length, take, drop, get_or}
use Rattle.lists.specs.Keep.{keep, count, last}
use Rattle.choose.specs.Falling.{reaches, above, at, falling}

module _ {X : Type 0} (ord : X → ℕ) where
  -- "k becomes min(k, live), then at least 1"
  abbrev pub wanted : ℕ → List X → ℕ
  wanted k xs = max (min k (length xs)) 1

  -- "T is the k-th highest order number of live slots (the lowest, if fewer)": where n is wanted it is the n-th of the falling list, or its last
  abbrev pub threshold : ℕ → List X → ℕ
  threshold n xs = get_or (map ord (falling ord xs)) (pred (min n (length xs))) 0

  -- what is left without "the lowest-numbered slot at T"
  abbrev pub without_first : ℕ → List X → List X
  without_first t [] = []
  without_first t (x ∷ xs) = cond (at ord t x) xs (x ∷ without_first t xs)

  -- "each later one above T displaces the lowest-numbered slot at T"
  abbrev pub displace : ℕ → List X → List X → List X
  displace t kept [] = kept
  displace t kept (x ∷ xs) = cond (above ord t x) (displace t (without_first t kept ++ (x ∷ [])) xs) (displace t kept xs)

  -- "Of live slots at or above T the first k by slot stay"
  unfoldable pub stay : ℕ → ℕ → List X → List X
  stay n t xs = displace t (take n (keep (reaches ord t) xs)) (drop n (keep (reaches ord t) xs))

  -- "The list falls by order number, equals by rising slot"
  unfoldable pub choose : ℕ → List X → List X
  choose k xs = falling ord (stay (wanted k xs) (threshold (wanted k xs) xs) xs)

  -- The same list without displacing: all above t, falling; then, of those at t among the first n at or above t, the last ones, as many as
  -- are left of n.
  unfoldable pub simply : ℕ → ℕ → List X → List X
  simply n t xs =
      falling ord (keep (above ord t) xs) ++ last (n - count (above ord t) xs) (keep (at ord t) (take n (keep (reaches ord t) xs)))

  -- t is the n-th highest order number: it occurs, fewer than n are above it, and at least n at or above it
  pub record Ranks (n t : ℕ) (xs : List X) : Type 0 where
    pub occurs : 0 < count (at ord t) xs
    pub few : count (above ord t) xs < n
    pub enough : n ≤ count (reaches ord t) xs
