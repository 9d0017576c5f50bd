use native.Mathlib.Omega.{arith}
use Rattle.shortlist.proofs.Places.{answers}
use Rattle.shortlist.proofs.choose_few.Goals as goal

pub returns-then-is_short : goal.returns-then-is_short
returns-then-is_short c =
    let short = c.shorten-m in
    let r = answers c.args.orders.now c.args.k c.max-n.result c.guess-t.result short.result c.max-n.ensures c.guess-t.ensures short.ensures.0
    (c.is_short.ensures c.if-is_short.true) c.requires.0 _ _ (omega arith) (omega arith) short.ensures.1 short.ensures.2
    c.args.slots.now c.choose_among.ensures.value c.choose_among.ensures.slots_after in
    record { value = r.0; slots_after = r.1 }
