use native.Mathlib.Numerals.{add-one}
use native.Mathlib.Omega.{arith}
use lib.Count.{ones-le}
use Rattle.fit.proofs.Ones.{live_more}
use Rattle.fit.proofs.live_total.Goals as goal

pub loop-word-preserved : goal.loop-word-preserved
loop-word-preserved c =
    let l = c.loop-word in
    let fits = (c.type_inv.words l.word-index).fits in (
      omega (arith, l.invariant.0, ones-le 64 _ fits),
      rw (add-one l.word-index, live_more c.args.words.now l.word-index fits, l.invariant.1),
    )
