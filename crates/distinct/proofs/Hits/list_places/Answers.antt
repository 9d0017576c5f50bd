use native.Mathlib.Omega.{arith}
use Rattle.distinct.proofs.Writing.{firsts-linked, listed-as}
use Rattle.distinct.proofs.Hits.list_places.Goals as goal

pub returns : goal.returns
returns c =
    let l = c.args.self.now in
    listed-as (firsts-linked l.keys.now l.keyed.now l.slots.now l.scores.now c.args.n _ _ c.requires.lists.0 c.requires.lists.2 (omega (arith, c.requires.lists.2)) c.link.ensures) c.write_firsts.ensures
