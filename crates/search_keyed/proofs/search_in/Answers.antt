use Rattle.std.proofs.Common.{arith, ℕ, ◌≤◌, min, length}
use Rattle.std.proofs.Math.ListN.{replicate}
use Rattle.std.proofs.lemmas.List.{length-replicate}
use Rattle.search_keyed.proofs.Keys.{listed-few, keys-named}
use Rattle.search_keyed.proofs.search_in.Goals as goal

-- the places of two working arrays are those of each
wide : {A B : Type 0} (n : ℕ) (a : A) (b : B) {i : ℕ} → i ≤ n → i ≤ min (length (replicate n a)) (length (replicate n b))
wide n a b h = omega (arith, h, length-replicate n a, length-replicate n b)

pub name_hits-requires : goal.name_hits-requires
name_hits-requires g c =
    let hits = listed-few _ _ _ _ _ c.requires.accepted _ (wide _ _ _ c.requires.room.0) _ c.list-listed.ensures.answer in
    (omega (arith, hits, c.list-listed.auto.slots), omega (arith, hits, c.list-listed.auto.scores))

pub returns : goal.returns
returns g c =
    let list = c.list-listed.ensures in
    let named = c.name_hits.ensures in
    let m = keys-named _ _ _ _ _ c.requires.accepted _ (wide _ _ _ c.requires.room.0) _ list.answer _ _ _ _ list.slots_after list.scores_after _ _ _ _ _ named.value named.names_after named.scores_after in
    record { answers = m.0; later_kept = m.1 }
