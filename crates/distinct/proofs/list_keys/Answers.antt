use borrow.Author.Rules.{rules}
use Rattle.distinct.proofs.Writing.{shown-none, shown-all}
use Rattle.distinct.proofs.list_keys.Goals as goal

pub returns-then-n-gt65536 : goal.returns-then-n-gt65536
returns-then-n-gt65536 c =
    let a = c.args in
    let m = shown-none a.keys.now a.keyed.now a.slots.now a.hits.now a.names.now a.scores.now _ c.min-n.ensures (rw c.min-places.ensures at c.then-n-gt65536.either) in
    record { many = m.0; names_after = m.1.0; scores_after = m.1.1 }

pub returns : goal.returns
returns c =
    let a = c.args in
    let m = shown-all a.keys.now a.keyed.now a.slots.now a.hits.now a.names.now a.scores.now _ c.min-n.ensures (search rules) (search rules) _ _ _ c.list_places.ensures in
    record { many = m.0; names_after = m.1.0; scores_after = m.1.1 }
