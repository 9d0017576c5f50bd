-- What a record that fits and a query that is not refused have for scoring.
use mathlib.Core.Path.{◌≡◌}
use mathlib.Core.Bool.{true}
use Prim.Native.Nat.{◌≤◌}
use native.Mathlib.Omega.{arith}
use lib.ListN.{length}
use Rattle.padding.specs.Rotatable.{rotatable}
use Rattle.unit.proofs.Rotatable.{is-rotatable, padded-most}
use Rattle.vectors.proofs.Faults.{has-length}
use Rattle.encode.specs.Coded.{fault}
use Rattle.index.specs.declared.Index.{Index}
use Rattle.index.specs.Arrays.{Arrays}
use Rattle.index.specs.State.{header_of}
use Rattle.index.specs.Fit.{fit}
use Rattle.index.specs.Step.{Query}
use Rattle.fit.proofs.Meaning.{meaning}

module _ (x : Index) (a : Arrays) (e : fit x a ≡ true) where
  pub width-in : (4 ≤ x.bits) × (x.bits ≤ 6)
  width-in = let f = ((meaning x a).yes e).fields in (f.bits, f.bits-high)

  -- what preparing the query asks for
  pub query-rotatable : (q : Query) → fault (header_of x) q.vector ≡ 0 → rotatable x.working_dim (length q.vector) 4096 ≡ true
  query-rotatable q accepted =
      let f = ((meaning x a).yes e).fields in
      let few : x.working_dim ≤ 4096 = omega (arith, f.working-high, f.dim-high) in
      is-rotatable (record {
        some = f.working;
        most = few;
        has = omega (arith, f.working-high, has-length x.dim x.working_dim q.vector accepted);
        room = padded-most x.working_dim few;
      })
