use native.Mathlib.Omega.{arith}
use lib.Dec.{lit<, lit≤}
use Rattle.numerals.proofs.Numeral.{put-number}
use Rattle.numerals.proofs.put_decimal.Goals as goal

pub returns : goal.returns
returns c =
    let called = c.decimal-k.ensures in
    put-number 10 (lit< tt) 1 20 _ _ _ (lit< tt) (lit≤ tt) (omega arith) called.len called.digits c.put_bytes.ensures
