use mathlib.Core.Path.{◌≡◌, sym}
use mathlib.Core.Bool.{Bool, true}
use mathlib.Core.List.{List}
use Prim.Native.Nat.{ℕ, ◌≤◌}
use native.Mathlib.Omega.{arith}
use lib.ListN.{length, length-take, take}
use lib.Dec.{ltb}
use lib.Seq.{get_or-take}
use borrow.Author.Tests.{ltb-true}
use Rattle.std.proofs.lemmas.List.Kept.{AllPairs-from_increasing}
use Rattle.std.specs.List.{IsAllAdjacentAnswer}
use Rattle.positions.specs.Positions.{Climbing}
use Rattle.std.proofs.Common.{rules, of_calls}
use Rattle.std.proofs.lemmas.Fn.{always_returns_same}
use Rattle.positions.proofs.HeldKeys.words_rise.Goals as goal

climbing : (keys : List ℕ) (n : ℕ) (r : Bool) → n ≤ length keys → IsAllAdjacentAnswer (λ x y b. b ≡ ltb x y) (take n keys) r → r ≡ true → Climbing keys n
climbing keys n r l h e =
    let next = rw e at h in
    let pairs = AllPairs-from_increasing (take n keys) (λ k m. ltb-true _ _ (sym (next k 0 m))) in
    λ i j m o. omega (arith, pairs i j 0 m (rw length-take (omega arith)), get_or-take n keys i 0 (omega arith), get_or-take n keys j 0 o)

pub returns : goal.returns
returns c = climbing _ _ _ c.args.self.now.room.keys (c.is_sorted_by.ensures.cases ltb (always_returns_same _ _ _ (λ a r f k. search (rules, of_calls))))
