use Rattle.std.proofs.Common.{ap, ◌∙◌, List, ℕ, arith}
use Rattle.lists.specs.Lists.{over}
use Rattle.lists.proofs.Writing.{written_none, written-more, written-part}
use Rattle.read.proofs.Stages.{tab-take}
use Rattle.read.proofs.read_codes.Goals as goal

pub loop-i-init : goal.loop-i-init
loop-i-init c = written_none _ _ _ (omega arith)

pub loop-i-preserved : goal.loop-i-preserved
loop-i-preserved c = written-more _ _ _ (omega arith) c.loop-i.invariant c.loop-i-test.true

pub returns : goal.returns
returns c =
    let a = c.args in
    written-part _ _ _ c.requires.0 c.loop-i.invariant c.loop-i-test.false
    ∙ ap (λ (ys : List ℕ). over ys a.codes.now) (tab-take a.many a.bytes.now c.requires.1)
