-- What it takes for a field to be a number, a vector or a run of bytes.
use mathlib.Core.Path.{◌≡◌, sym}
use mathlib.Core.Bool.{Bool, true, false, ◌&&◌}
use mathlib.Core.List.{List}
use Prim.Native.Nat.{ℕ, ◌/◌, ◌%◌}
use native.Mathlib.Nat.{mul_comm, div-mul-le_self}
use borrow.Author.Tests.{leb-true}
use lib.Dec.{ltb, leb, eqb}
use lib.ListN.{length}
use Rattle.std.specs.Prelude.{IfSome}
use Rattle.std.specs.Bool.{then_some}
use Rattle.values.specs.Reading.{are_digits, is_run, IsRun}
use Rattle.lists.proofs.Tests.{both}

pub run_is : (w room : ℕ) (f : List ℕ) → is_run w room f ≡ true → IsRun w room f (length f / w)
unfolding is_run
run_is w room f h =
    let h₁ = (both (ltb 0 (length f)) (eqb (length f % w) 0 && (leb (length f / w) room && are_digits f)) h).1 in
    let h₂ = (both (eqb (length f % w) 0) (leb (length f / w) room && are_digits f) h₁).1 in
    let h₃ = both (leb (length f / w) room) (are_digits f) h₂ in
    record {
      fits = leb-true (length f / w) room h₃.0;
      digits = λ _. h₃.1;
      whole = λ _. rw mul_comm (div-mul-le_self (length f) w);
    }

pub if_run : (w room : ℕ) (f : List ℕ) (b : Bool) → b ≡ is_run w room f → IfSome (then_some b (length f / w)) (IsRun w room f)
if_run w room f true e = run_is w room f (sym e)
if_run w room f false e = tt
