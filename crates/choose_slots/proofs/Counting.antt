-- A loop that counts the entries that pass a test.
use mathlib.Core.Path.{◌≡◌, refl}
use mathlib.Core.Bool.{Bool}
use mathlib.Core.List.{List, [], ◌∷◌}
use mathlib.Core.Logic.{⊎_elim}
use Prim.Native.Nat.{ℕ, suc, ◌+◌, ◌≤◌, ◌<◌}
use native.Mathlib.Nat.{eq-or-lt_of_le}
use native.Mathlib.Omega.{arith}
use lib.ListN.{length, take, get_or, length-take}
use lib.Seq.{take_all}
use lib.Dec.{ltb}
use mir.Val.{bool_byte}
use borrow.Author.Tests.{le-ltb}
use Rattle.lists.specs.Keep.{count}
use Rattle.lists.proofs.Bits.{as-bit}
use Rattle.lists.proofs.Keep.{count_next, count-length}

-- n of the first i entries of xs pass
pub record Counted (p : ℕ → Bool) (xs : List ℕ) (n i : ℕ) : Type 0 where
  pub within : i ≤ length xs
  pub so_far : n ≡ count p (take i xs)

module _ {p : ℕ → Bool} {xs : List ℕ} {n i : ℕ} (s : Counted p xs n i) where
  pub counted-more : i < length xs → Counted p xs (n + bool_byte (p (get_or xs i 0))) (i + 1)
  counted-more h = record { within = omega arith; so_far = omega (arith, s.so_far, as-bit (p (get_or xs i 0)), count_next p i xs 0 h) }

  pub counted-within : n ≤ length xs
  counted-within = omega (arith, s.so_far, count-length p (take i xs), length-take i xs)

  pub counted-all : length xs ≤ i → n ≡ count p xs
  counted-all h = rw (take_all i xs h) at s.so_far

  -- while fewer than all have been counted, there is a further entry
  pub counted-below : n < count p xs → i < length xs
  counted-below l = ⊎_elim (λ e. absurd (omega (arith, counted-all (omega arith)))) (λ m. m) (eq-or-lt_of_le s.within)

pub none_above : (b : ℕ) (xs : List ℕ) → ((i : ℕ) → get_or xs i 0 ≤ b) → count (ltb b) xs ≡ 0
none_above b [] h = refl
none_above b (x ∷ xs) h = rw (le-ltb b x (h 0), none_above b xs (λ i. h (suc i)))
