-- A width call and enabling the cascade, test by test.
use mathlib.Core.Path.{◌≡◌}
use mathlib.Core.Bool.{true, false, not, ◌&&◌}
use Prim.Native.Nat.{ℕ, ◌<◌}
use lib.Dec.{eqb}
use borrow.Author.Tests.{lt-ltb, eq-eqb, ne_eqb}
use Rattle.encode.specs.declared.Header.{Header}
use Rattle.index.specs.declared.Index.{Index}
use Rattle.index.specs.Arrays.{Arrays}
use Rattle.index.specs.State.{header_of, with_bits, state_of}
use Rattle.index.specs.Fit.{between, fit}
use Rattle.index.specs.Step.{set_bits, enable, refused, done, first_of, guarded, width_set, step}
use Rattle.index.specs.Call.{call}
use Rattle.index.specs.Answers.{result_of}
use Rattle.index.proofs.Calls.{call-answered}
use Rattle.settings.proofs.SameSlots.{with_header, call-same-slots, slots_length, slots-none}

module _ (x : Index) (a : Arrays) (f : fit x a ≡ true) where
  module _ (w : ℕ) where
    abbrev widened : Header
    widened = with_bits (header_of x) w

    pub width-5 : between 4 6 w ≡ false → call x a (set_bits w) ≡ result_of x a (refused 5)
    unfolding step width_set first_of guarded
    width-5 e = call-answered x a (set_bits w) f (refused 5) (rw e)

    module _ (e : between 4 6 w ≡ true) where
      pub width-6 : 0 < x.n → call x a (set_bits w) ≡ result_of x a (refused 6)
      unfolding step width_set first_of guarded
      width-6 l = call-answered x a (set_bits w) f (refused 6) (rw (e, slots_length x a, lt-ltb 0 x.n l))

      module _ (z : x.n ≡ 0) where
        pub width-7 : (x.residual && not (eqb w 4)) ≡ true → call x a (set_bits w) ≡ result_of x a (refused 7)
        unfolding step width_set first_of guarded state_of
        width-7 r = call-answered x a (set_bits w) f (refused 7) (rw (e, slots_length x a, z, r))

        pub width-set : (x.residual && not (eqb w 4)) ≡ false → call x a (set_bits w) ≡ result_of (with_header x widened false) a done
        unfolding step width_set first_of guarded state_of
        width-set r = call-same-slots x a (set_bits w) f widened false done (rw (e, slots-none x a z, r))

  pub enable-11 : (x.bits ≡ 4 → ⊥) → call x a enable ≡ result_of x a (refused 11)
  unfolding step guarded state_of
  enable-11 n = call-answered x a enable f (refused 11) (rw (ne_eqb x.bits 4 n))

  pub enabled : x.bits ≡ 4 → call x a enable ≡ result_of (with_header x (header_of x) true) a done
  unfolding step guarded state_of
  enabled e = call-same-slots x a enable f (header_of x) true done (rw (eq-eqb x.bits 4 e))
