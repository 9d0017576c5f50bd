use Rattle.std.proofs.Common.{arith}
use Rattle.lists.proofs.Writing.{written_none, written-more, written-part}
use Rattle.read.proofs.Years.{ones-written, year-read}
use Rattle.read.proofs.File.read_years.Goals as goal

pub returns-then-not-self : goal.returns-then-not-self
returns-then-not-self c =
    let self = c.args.self.now in
    ones-written self.bytes.now _ self.form_is c.if-not-self.true _ _ _ c.requires.room (c.fill.ensures.after (λ y w. w))

pub loop-i-init : goal.loop-i-init
loop-i-init c = written_none _ _ _ (omega arith)

pub loop-i-preserved : goal.loop-i-preserved
loop-i-preserved c =
    let self = c.args.self.now in
    rw (year-read self.bytes.now _ self.form_is c.if-not-self.false c.loop-i.i c.from_le_bytes.result c.years-bytes.result.now c.years-bytes.ensures (omega (arith, c.from_le_bytes.ensures)))
    (written-more _ _ _ (omega arith) c.loop-i.invariant c.loop-i-test.true)

pub returns : goal.returns
returns c = written-part _ _ _ c.requires.room c.loop-i.invariant c.loop-i-test.false
