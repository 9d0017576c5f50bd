use mathlib.Core.Path.{ap, ◌∙◌}
use Prim.Native.Nat.{◌*◌, min}
use native.Mathlib.Omega.{arith}
use lib.ListN.{length}
use Rattle.marks.proofs.Words.{length-marks}
use Rattle.nearest.specs.Limit.{level}
use Rattle.nearest.proofs.Marking.{marks-none, marks-more, marks_all}
use Rattle.nearest.proofs.Limit.mark.Goals as goal

pub loop-i-init : goal.loop-i-init
loop-i-init c = marks-none _ _ _ _ c.requires.none

pub mark_group-group-requires : goal.mark_group-group-requires
mark_group-group-requires c =
    let at = c.loop-i in
    let xs = c.args.distances.now in (
      omega arith,
      omega arith,
      omega arith,
      at.invariant.ties-seen ∙ ap (level xs c.args.self.distance) {x = min (at.i * 64) (length xs)} {y = at.i * 64} (omega arith),
    )

pub bounds-marks-i : goal.bounds-marks-i
bounds-marks-i c = omega (arith, c.loop-i.invariant.same, length-marks c.args.marks.now, c.requires.room)

pub loop-i-preserved : goal.loop-i-preserved
loop-i-preserved c =
    marks-more _ _ _ _ c.requires.room c.requires.none c.loop-i.invariant (omega arith) _ _ _ (omega arith) c.mark_group-group.ensures.word c.mark_group-group.ensures.seen

pub returns : goal.returns
returns c = marks_all _ _ _ _ c.requires.room c.requires.none c.loop-i.invariant (omega arith)
