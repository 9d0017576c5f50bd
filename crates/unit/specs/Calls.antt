-- What the calls of this crate leave in the lent arrays, also where the sizes don't fit: there nothing is written, and the result is 0.
use Rattle.std.specs.Prelude.{cond, List, ℕ, length, Float}
use Rattle.lists.specs.Lists.{over}
use Rattle.pattern.specs.Binary32.{+0}
use Rattle.padding.specs.Rotatable.{rotatable}
use Rattle.unit.specs.Unit.{rotated_by, rnorm, prepared}

-- the rotated vector in the first places of `out`
unfoldable pub rotated_into : (working seed : ℕ) → (v out : List Float) → List Float
rotated_into working seed v out = cond (rotatable working (length v) (length out)) (over (rotated_by working seed v) out) out

-- a prepared query in the first places of `out`, and rnorm
pub record Prepared : Type 0 where
  pub rnorm : Float
  pub out : List Float

abbrev pub query : (rnorm : Float) → (out : List Float) → Prepared
query rnorm out = record { rnorm = rnorm; out = out }

unfoldable pub prepared_into : (working seed : ℕ) → (q out : List Float) → Prepared
prepared_into working seed q out =
    let xs = rotated_by working seed q in
    cond (rotatable working (length q) (length out)) (query (rnorm xs) (over (prepared xs) out)) (query +0 out)
