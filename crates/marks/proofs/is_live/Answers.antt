use mathlib.Core.Path.{ap, ◌∙◌}
use Prim.Native.Nat.{◌+◌, ◌*◌, ◌/◌, ◌%◌}
use native.Mathlib.Omega.{arith}
use Rattle.marks.specs.Live.{marks_in, live_at}
use Rattle.marks.proofs.is_live.Goals as goal

pub returns : goal.returns
returns c =
    let s = c.args.slot in
    c.is_set.ensures ∙ c.word_at.ensures.each (s % 64) (omega arith)
    ∙ ap (live_at (marks_in c.args.alive.now)) {x = s / 64 * 64 + s % 64} {y = s} (omega arith)
