-- The number of a file that is refused, by its length.
use mathlib.Core.Path.{◌≡◌, refl, sym}
use mathlib.Core.List.{List, [], ◌∷◌}
use Prim.Native.Nat.{ℕ, zero, suc, ◌≤◌, ◌<◌}
use native.Mathlib.Omega.{arith}
use borrow.Author.Tests.{lt-ltb, le-ltb}
use lib.ListN.{length}
use Rattle.index.specs.Step.{first_of}
use Rattle.index.specs.Read.{head_fault, read_refusal}
use Rattle.listed.specs.Listing.{room, listing_refusal}

pub first_found : (n : ℕ) (ns : List ℕ) → (n ≡ 0 → ⊥) → first_of (n ∷ ns) ≡ n
unfolding first_of
first_found zero ns h = absurd (h refl)
first_found (suc n) ns h = refl

-- a number that is the first one already, asked for again
first-again : (h n : ℕ) → ((h ≡ 0 → ⊥) → n ≡ h) → first_of (h ∷ 0 ∷ n ∷ []) ≡ n
unfolding first_of
first-again zero zero f = refl
first-again zero (suc n) f = refl
first-again (suc h) n f = sym (f (λ e. absurd (omega arith)))

module _ (file : List ℕ) where
  head_first : (head_fault file ≡ 0 → ⊥) → read_refusal file room ≡ head_fault file
  unfolding read_refusal
  head_first h = first_found (head_fault file) _ h

  pub short-refusal : length file ≤ 65536 → listing_refusal file ≡ read_refusal file room
  unfolding listing_refusal
  short-refusal l = rw (le-ltb 65536 (length file) l) (first-again (head_fault file) (read_refusal file room) head_first)

  pub long-refusal : 65536 < length file → listing_refusal file ≡ first_of (head_fault file ∷ 20 ∷ [])
  unfolding listing_refusal first_of
  long-refusal l = rw (lt-ltb 65536 (length file) l) (go (head_fault file))
    where
      go : (h : ℕ) → first_of (h ∷ 20 ∷ read_refusal file room ∷ []) ≡ first_of (h ∷ 20 ∷ [])
      go zero = refl
      go (suc n) = refl

pub some_number : (h : ℕ) → first_of (h ∷ 20 ∷ []) ≡ 0 → ⊥
unfolding first_of
some_number zero e = absurd (omega arith)
some_number (suc n) e = absurd (omega arith)
