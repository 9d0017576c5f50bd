use mathlib.Core.Path.{◌≡◌, sym}
use mathlib.Core.Bool.{true, false}
use Prim.Native.Nat.{ℕ}
use native.Mathlib.Omega.{arith}
use borrow.Author.Tests.{ltb-true, ltb-false}
use Rattle.digits.specs.Digits.{bit_of}
use Rattle.marks.specs.Word.{live_in}
use Rattle.marks.proofs.Words.{bit-low, set-one, set-zero, one_more, one_shifted}
use Rattle.marks.proofs.with_bit.Goals as goal

clear : (w j : ℕ) → false ≡ live_in w j → bit_of w j ≡ 0
clear w j e = omega (arith, ltb-false 0 (bit_of w j) (sym e))

is-one : (w j : ℕ) → true ≡ live_in w j → bit_of w j ≡ 1
is-one w j e = omega (arith, ltb-true 0 (bit_of w j) (sym e), bit-low w j)

pub overflow_add-result : goal.overflow_add-result
overflow_add-result c =
    rw (one_shifted c.args.j c.requires)
    (record { fits = one_more c.args.word c.args.j 64 c.requires (omega arith) (clear c.args.word c.args.j c.in-false-true.ensures) })

pub returns-in-true-false : goal.returns-in-true-false
returns-in-true-false c =
    rw (one_shifted c.args.j c.requires, c.in-true-false.is-1) (set-zero c.args.word c.args.j (is-one c.args.word c.args.j c.in-true-false.ensures))

pub returns-in-false-true : goal.returns-in-false-true
returns-in-false-true c =
    rw (one_shifted c.args.j c.requires, c.in-false-true.is-1) (set-one c.args.word c.args.j (clear c.args.word c.args.j c.in-false-true.ensures))
