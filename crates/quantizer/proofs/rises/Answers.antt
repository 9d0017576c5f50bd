use Rattle.std.proofs.Common.{rules, of_calls, ◌≡◌, true, sym, List, Bool}
use Rattle.std.specs.List.{IsAllAdjacentAnswer}
use Rattle.std.proofs.lemmas.Fn.{always_returns_same}
use lib.Ieee.{Float, nan, lt}
use Rattle.lloyd.specs.Sound.{Rises}
use Rattle.quantizer.proofs.rises.Goals as goal

above-before : (table : List Float) (r : Bool) → IsAllAdjacentAnswer (λ x y b. b ≡ lt x y) table r → r ≡ true → Rises table
above-before table r h e = let next = rw e at h in λ i m. sym (next i nan m)

pub returns : goal.returns
returns c = above-before _ _ (c.is_sorted_by.ensures.cases lt (always_returns_same _ _ _ (λ a r f k. search (rules, of_calls))))
