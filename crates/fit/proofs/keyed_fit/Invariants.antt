use mathlib.Core.Path.{◌≡◌}
use Prim.Native.Nat.{◌*◌, min}
use lib.ListN.{length, drop}
use Rattle.positions.specs.Decides.{Decides}
use Rattle.marks.specs.Live.{marks_in}
use Rattle.fit.specs.Fits.{KeyedLive}
use Rattle.fit.proofs.keyed_fit.Given as goal

-- `fit::keyed_fit` meets its contract.
abbrev pub invariant-loop-part : goal.invariant-loop-part
invariant-loop-part l =
    let i = length l.yielded in
    let from = min (i * 64) (length l.keyed) in
    (l.part-iterator.a.size ≡ 64) × (l.part-iterator.a.rest.now ≡ drop from l.keyed) × (l.part-iterator.b.rest.now ≡ drop i l.alive)
    × Decides l.all (KeyedLive l.keyed (marks_in l.alive) from)
