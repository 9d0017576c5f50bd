-- What `apply` leaves behind, case by case.
use mathlib.Core.List.{List, ◌++◌}
use mathlib.Core.Path.{◌≡◌, sym, ◌∙◌}
use Prim.Native.Nat.{ℕ, ◌^◌, ◌≤◌, ◌<◌}
use borrow.Author.Tests.{le-leb, lt-leb, eq-eqb, ne_eqb}
use lib.Ieee as Ieee
use lib.Ieee.{Float, binary32, nan}
use lib.ListN.{length, take, drop}
use lib.Seq.{length-take-le}
use Rattle.lists.specs.Lists.{over}
use Rattle.padding.specs.Padded.{exponent, padded_dim, is_power_of_two}
use Rattle.rhdh.specs.Rotation.{signed, rotated, applied}
use Rattle.padding.proofs.Powers.{padded-pow, padded-fixed}
use Rattle.fwht.proofs.Spans.{fwht-length}
use Rattle.rhdh.proofs.Written.{signed-length}

pub rotated-length : (n seed : ℕ) (v : List Float) → length (rotated n seed v) ≡ n
unfolding rotated
rotated-length n seed v = fwht-length nan (Ieee.add binary32) (Ieee.sub binary32) (signed n seed v) ∙ signed-length n seed v

module _ (n seed : ℕ) (v out : List Float) where
  pub out_short : length out < n → out ≡ applied n seed v out
  unfolding applied
  out_short l = rw (lt-leb n (length out) l)

  module _ (fits : n ≤ length out) where
    pub vector_long : n < length v → out ≡ applied n seed v out
    unfolding applied
    vector_long l = rw (le-leb n (length out) fits, lt-leb (length v) n l)

    module _ (holds : length v ≤ n) (small : n ≤ 2 ^ 63) where
      pub no_power : (padded_dim n ≡ n → ⊥) → out ≡ applied n seed v out
      unfolding applied is_power_of_two
      no_power p =
          rw (le-leb n (length out) fits, le-leb (length v) n holds, ne_eqb (2 ^ exponent n) n (λ e. p (padded-pow n (exponent n) (sym e) small)))

      pub power : (k : ℕ) (part : List Float) → k ≡ n → padded_dim n ≡ n → part ≡ rotated (length (take k out)) seed v → part ++ drop k out ≡ applied n seed v out
      unfolding applied is_power_of_two over
      power k part e p r =
          rw (le-leb n (length out) fits, le-leb (length v) n holds, eq-eqb (2 ^ exponent n) n (padded-fixed n small p), rotated-length n seed v, r, e, length-take-le n out)
