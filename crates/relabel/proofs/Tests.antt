-- Whether keys may be relabelled, by how many slots the old key (t) and the new one (u) have.
use mathlib.Core.Path.{◌≡◌, refl}
use mathlib.Core.Bool.{true, false, not}
use Prim.Native.Nat.{ℕ, zero, suc}
use native.Mathlib.Omega.{arith}
use lib.Dec.{ltb, eqb}
use Rattle.relabel.specs.May.{may_change}
use borrow.Author.Tests.{lt-ltb, le-ltb, eq-eqb, ne_eqb}

module _ (t u old new : ℕ) where
  pub none-held : t ≡ 0 → false ≡ may_change t u old new
  unfolding may_change
  none-held e = rw (le-ltb 0 t (omega arith))

  module _ (held : t ≡ 0 → ⊥) where
    pub same_key : old ≡ new → true ≡ may_change t u old new
    unfolding may_change
    same_key e = rw (lt-ltb 0 t (omega arith), eq-eqb old new e)

    pub other_key : (old ≡ new → ⊥) → eqb u 0 ≡ may_change t u old new
    unfolding may_change
    other_key e = rw (lt-ltb 0 t (omega arith), ne_eqb old new e) (free u)
      where
        free : (u : ℕ) → eqb u 0 ≡ not (ltb 0 u)
        free zero = refl
        free (suc u) = rw (ne_eqb (suc u) 0 (λ e. omega arith), lt-ltb 0 (suc u) (omega arith))
