use native.Mathlib.Omega.{arith}
use borrow.Author.Rules.{rules}
use lib.Ieee.{of_bits}
use Rattle.rhdh.proofs.Written.{written-length, written_more, written_all}
use Rattle.rhdh.proofs.write_signed.Goals as goal

pub loop-i-preserved : goal.loop-i-preserved
unfolding of_bits
loop-i-preserved c =
    let inv = c.loop-i.invariant in
    let next = c.next_sign.ensures in
    written_more _ _ _ _ _ _ inv _ _ _ (omega (arith, written-length _ _ _ _ _ _ inv)) (search rules) next.state next.sign

pub returns : goal.returns
returns c = written_all _ _ _ _ _ _ c.loop-i.invariant (omega arith)
