-- The norm of a vector, its rotation, and a prepared query.
use mathlib.Core.Path.{◌≡◌, sym, ◌∙◌}
use mathlib.Core.Bool.{true, false}
use mathlib.Core.List.{List, ◌++◌}
use Prim.Native.Nat.{ℕ, ◌^◌, ◌≤◌}
use native.Mathlib.Nat.{le_trans, le_refl}
use native.Mathlib.Omega.{arith}
use borrow.Author.Tests.{le-leb, eq-eqb}
use lib.ListN.{length, take, drop}
use lib.Seq.{length-take-le}
use lib.Ieee.{Float, binary32, of_bits}
use Rattle.lists.specs.Lists.{over}
use Rattle.lists.proofs.Laws.{over-all}
use Rattle.pattern.specs.Binary32.{sum_squares}
use Rattle.sqrt.specs.Root.{SquareRoot}
use Rattle.padding.specs.Padded.{exponent, padded_dim, is_power_of_two}
use Rattle.rhdh.specs.Rotation.{rotated, applied}
use Rattle.padding.proofs.Powers.{padded-least, padded-pow, padded-fixed}
use Rattle.rhdh.proofs.Applied.{rotated-length}
use Rattle.vectors.proofs.Filling.{length-divided}
use Rattle.unit.specs.Unit.{norm, unit, rotated_by, rnorm, prepared}
use Rattle.padding.specs.Rotatable.{rotatable}
use Rattle.unit.specs.Calls.{rotated_into, query, prepared_into}
use Rattle.unit.proofs.Rotatable.{Rotatable, is-rotatable, rotatable-of, padded-most}

-- ---- the norm, and the entries over it

module _ (xs : List Float) (s r : Float) (e : s ≡ sum_squares xs) (root : SquareRoot s r) where
  pub norm-is : r ≡ norm xs
  unfolding norm
  norm-is = rw (← e) root.is

length-unit : (xs : List Float) → length (unit xs) ≡ length xs
unfolding unit
length-unit xs = length-divided (norm xs) xs

-- ---- the rotated vector

pub length-rotated : (working seed : ℕ) (v : List Float) → length (rotated_by working seed v) ≡ padded_dim working
unfolding rotated_by
length-rotated working seed v = rotated-length (padded_dim working) seed _

-- `Rhdh::apply` at a padded size writes
applied-padded : (working seed : ℕ) (u out : List Float) → working ≤ 4096 → length u ≤ working → padded_dim working ≤ length out → applied (padded_dim working) seed u out ≡ over (rotated (padded_dim working) seed u) out
unfolding applied is_power_of_two
applied-padded working seed u out m l room =
    let p = padded-least working (omega arith) in
    let small : padded_dim working ≤ 2 ^ 63 = omega (arith, padded-most working m) in
    let fixed = padded-pow (padded_dim working) p.power.0 p.power.1 small in
    rw (le-leb (padded_dim working) (length out) room, le-leb (length u) (padded_dim working) (le_trans l p.reaches), eq-eqb (2 ^ exponent (padded_dim working)) (padded_dim working) (padded-fixed (padded_dim working) small fixed))

module _ (working seed : ℕ) (v out : List Float) where
  pub not_rotated : rotatable working (length v) (length out) ≡ false → out ≡ rotated_into working seed v out
  unfolding rotated_into
  not_rotated e = rw e

  module _ (r : rotatable working (length v) (length out) ≡ true) where
    has : Rotatable working (length v) (length out)
    has = rotatable-of working (length v) (length out) r

    -- by the working entries as they are lent
    pub rotated_is : (next : List Float) → next ≡ applied (padded_dim (length (take working v))) seed (unit (take working v)) out → next ≡ rotated_into working seed v out
    unfolding rotated_into rotated_by
    rotated_is next e =
        let n = length-take-le working v has.has in
        e
        ∙ rw (n, r)
        (applied-padded working seed (unit (take working v)) out has.most (rw (length-unit (take working v), n) (le_refl working)) has.room)

    -- where `out` has just the places of the rotated vector
    pub rotated-whole : length out ≡ padded_dim working → rotated_into working seed v out ≡ rotated_by working seed v
    unfolding rotated_into
    rotated-whole l = rw r (over-all (rotated_by working seed v) out (length-rotated working seed v ∙ sym l))

-- ---- a prepared query

-- the places of the rotated vector, lent
module _ (working entries p : ℕ) (out : List Float) (r : rotatable working entries (length out) ≡ true) (e : p ≡ padded_dim working) where
  has-places : Rotatable working entries (length out)
  has-places = rotatable-of working entries (length out) r

  pub places_fit : p ≤ length out
  places_fit = rw e has-places.room

  pub places_all : length (take p out) ≡ padded_dim working
  places_all = length-take-le p out places_fit ∙ e

  pub places_rotatable : rotatable working entries (length (take p out)) ≡ true
  places_rotatable = is-rotatable (record { some = has-places.some; most = has-places.most; has = has-places.has; room = rw places_all (le_refl (padded_dim working)) })

module _ (working seed : ℕ) (q out : List Float) where
  pub not_prepared : rotatable working (length q) (length out) ≡ false → query (of_bits binary32 0) out ≡ prepared_into working seed q out
  unfolding prepared_into of_bits
  not_prepared e = rw e

  pub prepared_is : (p : ℕ) (n : Float) (part : List Float) → rotatable working (length q) (length out) ≡ true → p ≡ padded_dim working → n ≡ rnorm (rotated_by working seed q)
      → part ≡ prepared (rotated_by working seed q) → query n (part ++ drop p out) ≡ prepared_into working seed q out
  unfolding prepared_into over
  prepared_is p n part r e f g = rw (r, f, g, e, length-unit (rotated_by working seed q), length-rotated working seed q)
