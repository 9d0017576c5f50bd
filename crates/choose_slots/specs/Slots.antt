-- The choice over an array that has the order number of each slot, and 0 for a slot that takes no part.
use Rattle.std.specs.Prelude.{cond, ◌&&◌, List, [], map, ℕ, length, ltb, leb}
use Rattle.lists.specs.Keep.{keep, numbered}
use Rattle.choose.specs.Choose.{choose}

-- the slots that take part, each with its order number, in slot order
unfoldable pub taking_part : List ℕ → List (ℕ × ℕ)
taking_part orders = keep (λ e. ltb 0 e.1) (numbered 0 orders)

-- the numbers of the chosen slots
unfoldable pub listed : List ℕ → ℕ → List ℕ
listed orders k = map (λ e. e.0) (choose (λ e. e.1) k (taking_part orders))

-- what the call writes to the places: nothing where there are more than 65,536 slots, or fewer places than the list needs
unfoldable pub listed_within : List ℕ → ℕ → List ℕ → List ℕ
listed_within orders k places = cond (leb (length orders) 65536 && leb (length (listed orders k)) (length places)) (listed orders k) []
