use native.Mathlib.Omega.{arith}
use mathlib.Core.Path.{◌∙◌}
use Rattle.marks.specs.Live.{marks_in}
use Rattle.scan.specs.Scan.{stage_of, score_now}
use Rattle.scan.specs.Groups.{score_by}
use Rattle.scan.proofs.Sizes.{block_size, levels-of}
use Rattle.scan.proofs.Entries.{changed-like, entry-like}
use Rattle.scan.proofs.Raws.{score-by}
use Rattle.scan.proofs.Stage.scan_grouped.Goals as goal

pub fill_pairs-requires : goal.fill_pairs-requires
fill_pairs-requires c =
    let g = c.requires.grouped in
    let levels = levels-of c.args.self.now.bits g.to in
    (g.to, g.table, omega (arith, levels.square, levels.most))

pub invariant_of-tables : goal.invariant_of-tables
invariant_of-tables c =
    let g = c.requires.grouped in
    record {
      from = g.from;
      to = g.to;
      groups = g.groups;
      block = g.block ∙ block_size _ _ (omega (arith, g.groups));
      codes_there = g.codes-there;
      scales_there = g.scales-there;
      evens_there = omega (arith, g.most, c.halve.auto.evens);
      odds_there = omega (arith, g.most, c.halve.auto.odds);
      pairs_there = omega (arith, c.fill_pairs.auto.pairs);
    }

pub returns : goal.returns
returns c =
    let a = c.args.self.now in
    changed-like (score_now (score_by a.bits _ _ _ a.query.now a.size a.codes.now a.scales.now) (marks_in a.marks.now) a.second)
    (score_now (stage_of a.bits a.centroids.now a.query.now a.size a.codes.now a.scales.now) (marks_in a.marks.now) a.second) 0 a.n c.args.all.now _
    (λ i old p q. entry-like (score_by a.bits _ _ _ a.query.now a.size a.codes.now a.scales.now) (marks_in a.marks.now) a.second
    (stage_of a.bits a.centroids.now a.query.now a.size a.codes.now a.scales.now) i old
    (λ t. score-by a.bits a.centroids.now _ a.query.now _ _ a.size a.codes.now a.scales.now a.n _ c.requires.grouped a.bytes c.halve.ensures c.fill_pairs.ensures i q))
    c.scan_groups.ensures
