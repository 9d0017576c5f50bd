use borrow.Author.Rules.{rules}
use Rattle.held_order.proofs.Positions.{entry-low, restored-all}
use Rattle.held_order.proofs.restore.Goals as goal

pub place_all-requires : goal.place_all-requires
place_all-requires c = (
  search rules,
  search rules,
  entry-low c.args.keys.now c.args.keyed.now _ c.requires.1 _ _ _ c.number.ensures c.requires.0 c.link.ensures,
)

pub returns : goal.returns
returns c =
    restored-all c.args.keys.now c.args.keyed.now _ c.requires.1 _ _ _ c.number.ensures c.requires.0 c.link.ensures _ c.place_all.ensures (search rules)
