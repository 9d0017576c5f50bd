-- Refusal 13, "record and lent arrays misfit", for the index's part. Document 01: "13 means exactly: an array too short (the index's, for the slots in use; ..), a record
-- field outside its range, a residual record of width 5 or 6, over 65,536 slots in use, a live mark other than 0 or 1, a wrong live count, a key on a dead slot, or a key's t
-- slots not holding positions 0 to t-1 once each (unkeyed and dead hold 0)." Document 02, Req 02: "In 13, 'a mark other than 0 or 1' becomes a bit set there", at or above the
-- slots in use.
use Rattle.std.specs.Prelude.{Bool, false, not, cond, ◌&&◌, ◌||◌, List, [], ◌∷◌, ℕ, get_or, drop, leb, ltb, eqb}
use Rattle.lists.specs.Lists.{tab}
use Rattle.index.specs.declared.Index.{Index}
use Rattle.index.specs.Arrays.{Arrays}
use Rattle.lists.specs.Keep.{every, all, count}
use Rattle.index.specs.State.{header_of, capacity}

abbrev pub between : ℕ → ℕ → ℕ → Bool
between low high x = leb low x && leb x high

-- what the arrays of keys and marks hold of a slot
pub record Row : Type 0 where
  pub key : ℕ
  pub keyed : Bool
  pub held : ℕ
  pub alive : ℕ

unfoldable pub row_at : Arrays → ℕ → Row
row_at a i = record { key = get_or a.keys i 0; keyed = get_or a.keyed i false; held = get_or a.held i 0; alive = get_or a.alive i 0 }

abbrev pub rows : Index → Arrays → List Row
rows x a = tab (row_at a) x.n

abbrev pub of_key : ℕ → Row → Bool
of_key k r = r.keyed && eqb r.key k

abbrev pub of_key_at : (key position : ℕ) → Row → Bool
of_key_at k p r = of_key k r && eqb r.held p

-- among the t slots of its key, a slot's position is below t and no other's
unfoldable pub positioned : List Row → Row → Bool
positioned rs r =
    cond r.keyed (ltb r.held (count (of_key r.key) rs) && eqb (count (of_key_at r.key r.held) rs) 1) (eqb r.held 0)

-- 01's sentence, over one mark a slot
unfoldable pub fit_by_mark : Index → Arrays → Bool
fit_by_mark x a =
    every
    (between 1 4096 x.dim  -- a record field outside its range
    ∷ between 1 x.dim x.working_dim
    ∷ between 4 6 x.bits
    ∷ (not x.residual || eqb x.bits 4)  -- a residual record of width 5 or 6
    ∷ leb x.n (capacity (header_of x) a)  -- an array too short for the slots in use; over 65,536 slots in use
    ∷ all (λ r. leb r.alive 1) (rows x a)  -- a live mark other than 0 or 1: of bits there is none
    ∷ eqb x.live (count (λ r. eqb r.alive 1) (rows x a))  -- a wrong live count
    ∷ all (λ r. not r.keyed || eqb r.alive 1) (rows x a)  -- a key on a dead slot
    ∷ all (positioned (rows x a)) (rows x a)  -- positions; unkeyed and dead hold 0
    ∷ [])

-- whether no mark is set at or above the first n slots, in any lent word
unfoldable pub none_from : (n : ℕ) → (marks : List ℕ) → Bool
none_from n ms = all (eqb 0) (drop n ms)

-- document 02, Req 02, "a bit set there": a mark set at or above the slots in use is a misfit too
unfoldable pub fit : Index → Arrays → Bool
fit x a = fit_by_mark x a && none_from x.n a.alive

abbrev pub misfit : Index → Arrays → Bool
misfit x a = not (fit x a)
