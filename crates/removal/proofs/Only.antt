-- Lists changed at the one place that passes.
use mathlib.Core.Path.{◌≡◌}
use mathlib.Core.Logic.{◌≢◌}
use mathlib.Core.Bool.{Bool, true, false, cond}
use mathlib.Core.List.{List}
use Prim.Native.Nat.{ℕ, ◌≤◌, ◌<◌}
use native.Mathlib.Decide.{ℕ_discrete}
use native.Mathlib.Omega.{arith}
use lib.ListN.{length, get_or, set, length-set}
use lib.Seq.{get_or-set_same, get_or-set_other}
use Rattle.lists.proofs.Front.{over-ext}
use Rattle.remarking.specs.Replaced.{replaced_where}

-- slot is the one place of the first n that passes
pub record Only (p : ℕ → Bool) (n slot : ℕ) : Type 0 where
  pub low : slot < n
  pub passes : p slot ≡ true
  pub other : (i : ℕ) → i < n → i ≢ slot → p i ≡ false

module _ {A : Type 0} (p : ℕ → Bool) (n slot : ℕ) (only : Only p n slot) (x d : A) (xs : List A) (room : n ≤ length xs) where
  pub set_at : (i : ℕ) → i < n → get_or (set xs slot x) i d ≡ cond (p i) x (get_or xs i d)
  set_at i l = go (ℕ_discrete i slot)
    where
      go : Dec (i ≡ slot) → get_or (set xs slot x) i d ≡ cond (p i) x (get_or xs i d)
      go (yes e) = rw (e, only.passes) (get_or-set_same xs slot x d (omega (arith, only.low)))
      go (no e) = rw (only.other i l e) (get_or-set_other xs slot i x d e)

  pub set-later : (i : ℕ) → n ≤ i → get_or (set xs slot x) i d ≡ get_or xs i d
  set-later i l = get_or-set_other xs slot i x d (λ e. omega (arith, only.low))

  pub set-only : set xs slot x ≡ replaced_where p n x d xs
  unfolding replaced_where
  set-only = over-ext _ n d xs (set xs slot x) room (length-set xs slot x) set_at (λ i l k. set-later i l)
