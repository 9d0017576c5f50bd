-- The refusals of a vector: 1, 2 and 3.
use mathlib.Core.Path.{◌≡◌, refl}
use mathlib.Core.Bool.{Bool, true, false, cond}
use mathlib.Core.List.{List}
use Prim.Native.Nat.{ℕ, zero, suc, ◌-◌, ◌≤◌}
use native.Mathlib.Nat.{sub-zero}
use native.Mathlib.Omega.{arith}
use borrow.Author.Tests.{eq-eqb, ne_eqb, eqb-true}
use lib.Dec.{eqb}
use lib.ListN.{length, take}
use lib.Seq.{take_all}
use lib.Ieee.{Float, nan, inf, fin}
use Rattle.pattern.specs.Binary32.{sum_squares}
use Rattle.vectors.specs.Vectors.{sum_fault, vector_fault}

-- a vector that is taken has the length
pub has-length : (dim working : ℕ) (v : List Float) → vector_fault dim working v ≡ 0 → length v ≡ dim
unfolding vector_fault
has-length dim working v e = go (eqb (length v) dim) refl e
  where
    go : (b : Bool) → eqb (length v) dim ≡ b → ◌≡◌ {A = ℕ} (cond b (sum_fault (sum_squares (take working v))) 1) 0 → length v ≡ dim
    go true f q = eqb-true (length v) dim f
    go false f q = absurd (let z : ◌≡◌ {A = ℕ} 1 0 = q in omega arith)

module _ (dim working : ℕ) (v : List Float) where
  -- no other number is given
  pub fault-most : vector_fault dim working v ≤ 3
  unfolding vector_fault
  fault-most = go (eqb (length v) dim) (sum_squares (take working v))
    where
      go : (b : Bool) (sum : Float) → cond b (sum_fault sum) 1 ≤ 3
      go true nan = omega arith
      go true (inf s) = omega arith
      go true (fin s zero e) = omega arith
      go true (fin s (suc m) e) = omega arith
      go false sum = omega arith

  pub other_length : (length v ≡ dim → ⊥) → 1 ≡ vector_fault dim working v
  unfolding vector_fault
  other_length h = rw (ne_eqb (length v) dim h)

  module _ (l : length v ≡ dim) (s : Float) (r : ℕ) (f : r ≡ sum_fault s) where
    pub first-entries : s ≡ sum_squares (take (working - 0) v) → r ≡ vector_fault dim working v
    unfolding vector_fault
    first-entries e = rw (eq-eqb (length v) dim l, f, e, sub-zero working)

    pub all-entries : dim ≤ working → s ≡ sum_squares v → r ≡ vector_fault dim working v
    unfolding vector_fault
    all-entries h e = rw (eq-eqb (length v) dim l, f, e, take_all working v (omega arith))
