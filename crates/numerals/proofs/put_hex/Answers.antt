use native.Mathlib.Omega.{arith}
use lib.Dec.{lit<}
use Rattle.numerals.proofs.Numeral.{put-number}
use Rattle.numerals.proofs.put_hex.Goals as goal

pub returns : goal.returns
returns c =
    let called = c.hex-k.ensures in
    put-number 16 (lit< tt) _ 16 _ _ _ (omega arith) (omega arith) (omega arith) called.len called.digits c.put_bytes.ensures
