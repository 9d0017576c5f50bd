use mathlib.Core.Path.{◌≡◌, sym, ◌∙◌}
use borrow.Author.Rules.{rules}
use lib.ListN.{get_or}
use Rattle.scan.specs.Scan.{stage_of}
use Rattle.scan.proofs.Steps.{entry-unmarked, entry-marked}
use Rattle.scan.proofs.Stage.plain_entry.Goals as goal

pub returns-then-not-marked : goal.returns-then-not-marked
returns-then-not-marked c = entry-unmarked _ _ _ _ (sym c.requires ∙ c.if-not-marked.true)

pub returns : goal.returns
unfolding stage_of
returns c =
    let s = c.args.self.now in
    let scale : c.unwrap_or-scale.result ≡ get_or s.scales.now c.args.slot 0 = search rules in
    entry-marked _ _ _ _ _ _ (sym c.requires ∙ c.if-not-marked.false) c.joined.ensures
    (c.stage_score.ensures ∙ rw (scale, c.slot_codes-block.ensures))
