-- Words of the contracts on the way to the list.
use Rattle.std.specs.Prelude.{Bool, ◌&&◌, List, ◌++◌, map, ℕ, ◌-◌, length, ltb, leb}
use Rattle.std.proofs.Math.Seq.{slice}
use Rattle.lists.specs.Keep.{keep, numbered}

abbrev pub in_range : ℕ → ℕ → ℕ → Bool
in_range low high order = ltb low order && leb order high

-- of the slots from f up to t, those with an order number above low
abbrev pub picked : ℕ → ℕ → ℕ → List ℕ → List ℕ
picked low f t orders = map (λ e. e.0) (keep (λ e. ltb low e.1) (slice f t (numbered 0 orders)))

-- the slots above t, and those at t from slot b up to slot e
unfoldable pub picked_around : ℕ → ℕ → ℕ → List ℕ → List ℕ
picked_around t b e orders = picked t 0 b orders ++ (picked (t - 1) b e orders ++ picked t e (length orders) orders)
