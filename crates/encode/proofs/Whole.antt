-- A whole vector into a slot's blocks.
use mathlib.Core.Path.{◌≡◌, ap, ◌∙◌}
use mathlib.Core.Bool.{Bool, true, false}
use mathlib.Core.List.{List}
use Prim.Native.Nat.{ℕ}
use native.Mathlib.Nat.{le_refl}
use lib.ListN.{length}
use lib.Ieee.{Float}
use Rattle.encode.specs.Header.{Header, padded}
use Rattle.unit.specs.Brought.{Item}
use Rattle.unit.specs.Calls.{rotated_into}
use Rattle.unit.proofs.Rotatable.{is-rotatable}
use Rattle.unit.proofs.Vectors.{rotated-whole, length-rotated}
use Rattle.encode.specs.Coding.{table, plain, packed_stage}
use Rattle.encode.specs.Encode.{residual}
use Rattle.codes.specs.Stage.{Stage, stage}
use Rattle.encode.specs.Coded.{rotated_of, encoded_by_table}
use Rattle.codes.specs.Writing.{spare_after}
use Rattle.encode.specs.Calls.{untouched, Stages, untouched_both, spares_after, stored_both, encodable, placed, encoded_into}
use Rattle.encode.proofs.Fit.{Encodable, encodable-of}

module _ (b c : List Float) (h : Header) (fresh : Bool) (v : Item) (block block2 : List ℕ) where
  pub not-encoded : encodable h (length b) (length v.vector) (length block) (length block2) ≡ false → untouched_both block block2 ≡ encoded_into (table b c) h fresh v block block2
  unfolding encoded_into
  not-encoded e = rw e

  module _ (e : encodable h (length b) (length v.vector) (length block) (length block2) ≡ true) where
    has : Encodable h (length b) (length v.vector) (length block) (length block2)
    has = encodable-of h (length b) (length v.vector) (length block) (length block2) e

    pub encoded-into : (g : Stages) → g ≡ placed (encoded_by_table (table b c) h (spares_after fresh h.bits (padded h) block block2) v) block2 → g ≡ encoded_into (table b c) h fresh v block block2
    unfolding encoded_into
    encoded-into g s = rw e s

    -- a first stage, the second block left as it is
    abbrev pub beside : Stage → Stages
    beside g = record { first = g; second = untouched block2 }

    -- the rotated vector in the whole of a working array
    module _ (out next : List Float) (l : length out ≡ padded h) (r : next ≡ rotated_into h.working_dim h.seed v.vector out) where
      rotated-vector : next ≡ rotated_of h v.vector
      rotated-vector =
          r ∙ rotated-whole h.working_dim h.seed v.vector out (is-rotatable (record { some = has.rotates.some; most = has.rotates.most; has = has.rotates.has; room = rw l (le_refl (padded h)) })) l

      pub residual-vector : h.residual ≡ true → (g : Stages) → g ≡ stored_both h.bits (spares_after fresh h.bits (length next) block block2) (residual (table b c) next)
          → g ≡ placed (encoded_by_table (table b c) h (spares_after fresh h.bits (padded h) block block2) v) block2
      unfolding encoded_by_table
      residual-vector f g s =
          s
          ∙ rw (rotated-vector, length-rotated h.working_dim h.seed v.vector, f)

      pub plain-vector : h.residual ≡ false → (s : ℕ) (after : List ℕ) → stage s after ≡ packed_stage h.bits (spare_after fresh h.bits (length next) block) (plain (table b c) next)
          → beside (stage s after) ≡ placed (encoded_by_table (table b c) h (spares_after fresh h.bits (padded h) block block2) v) block2
      unfolding encoded_by_table
      plain-vector f s after p =
          ap beside p ∙ rw (rotated-vector, length-rotated h.working_dim h.seed v.vector, f)
