use mathlib.Core.Path.{sym, ap, ◌∙◌}
use Prim.Native.Nat.{◌≤◌}
use native.Mathlib.Omega.{arith}
use lib.Dec.{ltb}
use borrow.Author.Tests.{le-ltb}
use Rattle.digits.specs.Digits.{bit_of}
use Rattle.marks.proofs.Words.{bit-low, bit-past, one-live}
use Rattle.marks.proofs.is_set.Goals as goal

pub returns-then-j-lt64 : goal.returns-then-j-lt64
returns-then-j-lt64 c = one-live (bit_of c.args.word c.args.j) (bit-low c.args.word c.args.j)

pub returns-else-j-lt64 : goal.returns-else-j-lt64
returns-else-j-lt64 c =
    let past : 64 ≤ c.args.j = omega (arith, c.if-j-lt64.false) in
    le-ltb c.args.j 64 past ∙ sym (ap (ltb 0) (bit-past c.args.word 64 c.args.j c.ranges.word.fits past))
