-- Making an index: `new`, `with_working_dim`, `with_residual`. They are lent the arrays, of which an accepted call clears the live marks: no slot is in use.
use Rattle.std.specs.Prelude.{Bool, false, not, cond, ◌&&◌, [], ◌∷◌, ℕ, zero, suc, eqb}
use Rattle.encode.specs.declared.Header.{Header}
use Rattle.index.specs.declared.Index.{Index}
use Rattle.index.specs.Verdict.{Verdict, granted, turned_down}
use Rattle.index.specs.Arrays.{Arrays, unmarked}
use Rattle.index.specs.State.{State, capacity, record_of}
use Rattle.index.specs.Fit.{between}
use Rattle.index.specs.Step.{first_of, when}

-- the Rust makes an index of 5 bits, and a residual one of 4
abbrev pub new_header : (dim working seed : ℕ) → (residual : Bool) → Header
new_header dim working seed residual = record { dim = dim; working_dim = working; seed = seed; bits = cond residual 4 5; residual = residual }

abbrev pub empty : Header → State
empty h = record { header = h; cascade = false; slots = [] }

-- 01: making's order is "4, then 13 where a lent array holds no slot". 4 is "dim outside 1..4,096 or working_dim outside 1..dim".
unfoldable pub make_refusal : Header → Arrays → ℕ
make_refusal h a =
    first_of (when (not (between 1 4096 h.dim && between 1 h.dim h.working_dim)) 4 ∷ when (eqb (capacity h a) 0) 13 ∷ [])

-- what making and reading hand back and leave
pub record Begun : Type 0 where
  pub answer : Verdict Index
  pub arrays : Arrays

abbrev pub begun : Verdict Index → Arrays → Begun
begun r a = record { answer = r; arrays = a }

-- a record with the arrays b, or the refusal with the arrays a, which were lent: "A refusal returns its number and changes nothing lent."
abbrev pub begun_unless : (refusal : ℕ) → Index → (a b : Arrays) → Begun
begun_unless zero x a b = begun (granted x) b
begun_unless (suc n) x a b = begun (turned_down (suc n)) a

unfoldable pub make : Header → Arrays → Begun
make h a = begun_unless (make_refusal h a) (record_of (empty h)) a (unmarked a)
