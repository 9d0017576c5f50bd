-- Making, test by test.
use mathlib.Core.Path.{◌≡◌, ap, ◌∙◌}
use mathlib.Core.List.{List}
use mathlib.Core.Bool.{Bool, true, false, cond, ◌&&◌}
use Prim.Native.Nat.{ℕ}
use native.Mathlib.Omega.{arith}
use borrow.Author.Tests.{ne_eqb}
use Rattle.codes.specs.Writing.{at_width}
use Rattle.encode.specs.declared.Header.{Header}
use Rattle.index.specs.declared.Index.{Index}
use Rattle.index.specs.Verdict.{granted, turned_down}
use Rattle.index.specs.Arrays.{Arrays, unmarked}
use Rattle.index.specs.State.{header_of, with_bits, record_with, capacity, record_of}
use Rattle.index.specs.Fit.{between}
use Rattle.index.specs.Step.{first_of}
use Rattle.index.specs.Make.{new_header, empty, begun, make_refusal, make}
use Rattle.fit.proofs.Rooms.{in-width}
use Rattle.index.proofs.Make.{begun-granted, begun-refused}
use Rattle.marks.specs.Live.{no_marks}

module _ (h : Header) (a : Arrays) where
  abbrev dims : Bool
  dims = between 1 4096 h.dim && between 1 h.dim h.working_dim

  pub fault-4 : dims ≡ false → 4 ≡ make_refusal h a
  unfolding make_refusal first_of
  fault-4 e = rw e

  pub fault-13 : dims ≡ true → capacity h a ≡ 0 → 13 ≡ make_refusal h a
  unfolding make_refusal first_of
  fault-13 e z = rw (e, z)

  pub fault-none : dims ≡ true → (capacity h a ≡ 0 → ⊥) → 0 ≡ make_refusal h a
  unfolding make_refusal first_of
  fault-none e n = rw (e, ne_eqb (capacity h a) 0 n)

  pub make-accepted : (x : Index) (b : Arrays) → make_refusal h a ≡ 0 → x ≡ record_of (empty h) → b ≡ unmarked a → begun (granted x) b ≡ make h a
  unfolding make
  make-accepted x b e f g = begun-granted (record_of (empty h)) a (unmarked a) (make_refusal h a) e x b f g

  pub make-refused : (n : ℕ) → n ≡ make_refusal h a → (n ≡ 0 → ⊥) → begun (turned_down n) a ≡ make h a
  unfolding make
  make-refused n e k = begun-refused (record_of (empty h)) a (unmarked a) n (make_refusal h a) e k

-- the arrays with other marks
abbrev with_alive : Arrays → List ℕ → Arrays
with_alive a ms =
    record { codes = a.codes; scales = a.scales; keys = a.keys; keyed = a.keyed; held = a.held; alive = ms; codes2 = a.codes2; scales2 = a.scales2; years = a.years }

pub unmarked-are : (a : Arrays) (ms : List ℕ) → ms ≡ no_marks a.alive → with_alive a ms ≡ unmarked a
unmarked-are a ms e = ap (with_alive a) e

-- ---- the record as the program makes it, its width in a local

-- the width that an index is made with is a code's
default-width : (residual : Bool) (n : ℕ) → at_width (cond residual 4 5) n ≡ n
default-width true n = in-width 4 n (omega arith) (omega arith)
default-width false n = in-width 5 n (omega arith) (omega arith)

module _ (dim working seed : ℕ) (residual : Bool) where
  pub fresh-made : (bits : ℕ) → bits ≡ cond residual 4 5 →
      record_with (with_bits (new_header dim working seed residual) bits) 0 0 false ≡ record_of (empty (new_header dim working seed residual))
  unfolding record_of
  fresh-made bits b = ap (λ (w : ℕ). record_with (with_bits (new_header dim working seed residual) w) 0 0 false) b

  pub fresh-room : (x : Index) (a : Arrays) (room : ℕ) → x ≡ record_of (empty (new_header dim working seed residual)) →
      room ≡ at_width x.bits (capacity (header_of x) a) → room ≡ capacity (new_header dim working seed residual) a
  unfolding record_of
  fresh-room x a room f r = r ∙ ap (λ (y : Index). at_width y.bits (capacity (header_of y) a)) f ∙ default-width residual _
