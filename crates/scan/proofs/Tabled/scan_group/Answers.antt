use Rattle.marks.specs.Live.{marks_in}
use Rattle.scan.proofs.Entries.{none-changed}
use Rattle.scan.proofs.Raws.{group-changed}
use Rattle.scan.proofs.Tabled.scan_group.Goals as goal

pub returns-then-word-eq0 : goal.returns-then-word-eq0
returns-then-word-eq0 c = none-changed _ _ _ c.args.first c.args.many c.args.word c.args.all.now c.requires.arrays.2 c.requires.lives c.if-word-eq0.true

pub returns : goal.returns
returns c =
    let t = c.args.self.now in
    group-changed t.of.bits t.evens.now t.odds.now t.pairs.now t.of.query.now t.of.size t.of.codes.now (marks_in t.of.marks.now)
    c.args.first c.args.many _ t.of.scales.now t.of.second c.args.all.now _ c.sum_group.ensures c.enter_group.ensures
