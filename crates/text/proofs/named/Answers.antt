use Rattle.std.proofs.Common.{rules, tests, ◌≡◌, refl}
use Rattle.std.proofs.lemmas.List.{get_or_default}
use Rattle.text.proofs.named.Goals as goal

pub returns-then-eq : goal.returns-then-eq
returns-then-eq g c =
    let table = c.args.table.now in
    let place = c.loop-name.name-index in
    let item = c.loop-name-item.result in
    let same : item.0.now ≡ c.args.word.now = search (rules, tests) in
    record {
      place = place;
      inside = c.loop-name-test.true;
      here = λ d. rw (get_or_default table place d item c.loop-name-test.true, ← c.loop-name-item.is) (same, refl);
      before = c.loop-name.invariant;
    }
