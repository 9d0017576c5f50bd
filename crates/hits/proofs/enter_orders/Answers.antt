use native.Mathlib.Omega.{arith}
use mathlib.Core.Path.{refl}
use Rattle.marks.specs.Live.{marks_in}
use Rattle.hits.proofs.Entering.{enters_stop, enters_more}
use Rattle.hits.proofs.enter_orders.Goals as goal

pub returns-then-not-enter_group : goal.returns-then-not-enter_group
returns-then-not-enter_group c =
    let e = c.enter_group.ensures (marks_in c.args.marks.now) c.word_at-word.ensures in
    enters_stop (enters_more c.loop-group.invariant.2 e (omega arith) refl c.if-not-enter_group.true) (omega arith)

pub loop-group-preserved : goal.loop-group-preserved
loop-group-preserved c =
    let e = c.enter_group.ensures (marks_in c.args.marks.now) c.word_at-word.ensures in (
      omega (arith, c.enter_group.auto),
      omega (arith, c.enter_group.auto),
      enters_more c.loop-group.invariant.2 e (omega arith) (omega arith) c.if-not-enter_group.false,
    )
