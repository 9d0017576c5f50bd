use Rattle.std.proofs.Common.{rules, ◌≡◌, Err}
use Prim.Native.Nat.{min}
use lib.ListN.{length}
use Rattle.refusal.specs.declared.Refusal.TheVariants.{ScoreNan}
use Rattle.search_keyed.proofs.Keys.{none_named}
use Rattle.search_keyed.proofs.name_hits.Goals as goal

pub returns-in_err-m : goal.returns-in_err-m
returns-in_err-m c =
    let k : c.from_residual.result ≡ Err ScoreNan = search rules in
    let none =
    none_named c.args.arrays.now.keys.now c.args.arrays.now.keyed.now c.args.slots.now c.args.found.now (min (length c.args.names.now) (length c.args.scores.now)) c.args.listed
    (rw c.in_err-m.was tt) c.args.names.now c.args.scores.now in
    record { value = rw k none.0; names_after = none.1.0; scores_after = none.1.1 }
