use native.Mathlib.Omega.{arith}
use Rattle.sqrt.proofs.Nearest.{nearest-is}
use Rattle.sqrt.proofs.Round.{q-below, rounds-up, rounds-down}
use Rattle.sqrt.proofs.positive_root.Goals as goal

pub returns-then-q-p : goal.returns-then-q-p
returns-then-q-p c =
    let s = c.radicand_of-p.ensures in
    let w = c.whole_root-q.ensures in
    omega (arith, q-below _ _ _ _ s w, s.small, nearest-is _ _ (rounds-up _ _ _ _ s w c.if-q-p.true))

pub returns : goal.returns
returns c =
    let s = c.radicand_of-p.ensures in
    let w = c.whole_root-q.ensures in
    omega (arith, q-below _ _ _ _ s w, s.small, nearest-is _ _ (rounds-down _ _ _ _ s w c.if-q-p.false))
