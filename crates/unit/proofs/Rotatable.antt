-- The test `rotatable` of `padding`, and what follows where it passes.
use mathlib.Core.Path.{◌≡◌}
use mathlib.Core.Bool.{true, ◌&&◌}
use Prim.Native.Nat.{ℕ, ◌≤◌}
use native.Mathlib.Omega.{arith}
use borrow.Author.Tests.{le-leb, leb-true}
use lib.Dec.{leb}
use Rattle.lists.proofs.Tests.{both}
use Rattle.padding.specs.Padded.{padded_dim}
use Rattle.padding.proofs.Powers.{padded-least}
use Rattle.padding.specs.Rotatable.{rotatable}

pub record Rotatable (working entries places : ℕ) : Type 0 where
  pub some : 1 ≤ working
  pub most : working ≤ 4096
  pub has : working ≤ entries
  pub room : padded_dim working ≤ places

pub is-rotatable : {working entries places : ℕ} → Rotatable working entries places → rotatable working entries places ≡ true
unfolding rotatable
is-rotatable {working} {entries} {places} r =
    rw (le-leb 1 working r.some, le-leb working 4096 r.most, le-leb working entries r.has) (le-leb (padded_dim working) places r.room)

pub rotatable-of : (working entries places : ℕ) → rotatable working entries places ≡ true → Rotatable working entries places
unfolding rotatable
rotatable-of working entries places h =
    let a = both (leb 1 working) (leb working 4096 && (leb working entries && leb (padded_dim working) places)) h in
    let b = both (leb working 4096) (leb working entries && leb (padded_dim working) places) a.1 in
    let c = both (leb working entries) (leb (padded_dim working) places) b.1 in
    record {
      some = leb-true 1 working a.0;
      most = leb-true working 4096 b.0;
      has = leb-true working entries c.0;
      room = leb-true (padded_dim working) places c.1;
    }

-- the padded size of a working_dim that is permitted
pub padded-most : (working : ℕ) → working ≤ 4096 → padded_dim working ≤ 4096
padded-most working h = (padded-least working (omega arith)).least 12 h
