-- Document 02, Req 06: "Reel strips must not vanish before their time", "any other the first year in which it may go". As a law of one call, over every call that there is:
-- a live slot that 21 protects at the present year told is still in use and live afterwards, with its code and year. Law of proofs/Years.antt.
use Rattle.std.specs.Prelude.{◌≡◌, Bool, true, cond, List, ℕ, take}
use Rattle.std.proofs.Math.Option.{Option, none, some}
use Rattle.std.proofs.Math.ListN.{get_elem?}
use Rattle.lists.specs.Keep.{count}
use Rattle.index.specs.declared.Index.{Index}
use Rattle.index.specs.Arrays.{Arrays}
use Rattle.index.specs.State.{Slot, live, state_of}
use Rattle.index.specs.Step.{Op, add_keyed, remove, remove_at, compact, Answer, accepted, must_stay}
use Rattle.index.specs.Call.{call}

-- "Removal and overwrite are told the present year", and no other call
abbrev pub present_told : Op → Option ℕ
present_told (add_keyed j v y present) = some present
present_told (remove j present) = some present
present_told (remove_at j i present) = some present
present_told op = none

-- whether a live slot of this year must outlast the call: by 21 at the present year told; where none is told, whatever its year
abbrev pub protected : Op → (year : ℕ) → Bool
protected op y = elim (present_told op) [ none ↦ true | some present ↦ must_stay present y ]

-- the number of a slot after a call: its own, or after an accepted compaction, which leaves the live slots only, how many live ones came before it
abbrev pub number_after : Op → Answer → List Slot → (number : ℕ) → ℕ
number_after compact r ss i = cond (accepted r) (count live (take i ss)) i
number_after op r ss i = i

-- among the slots in use afterwards there stands under this number a live one with the slot's code and year
pub record Stands (number : ℕ) (s : Slot) (after : List Slot) : Type 0 where
  pub slot : Slot
  pub in_use : get_elem? after number ≡ some slot
  pub live : live slot ≡ true
  pub code : slot.code ≡ s.code
  pub year : slot.year ≡ s.year

-- of any record and arrays: where these misfit, 13 leaves all as it was
abbrev pub StaysInTime : Type 0
StaysInTime =
    (x : Index) (a : Arrays) (op : Op) (i : ℕ) (s : Slot) → get_elem? (state_of x a).slots i ≡ some s → live s ≡ true → protected op s.year ≡ true →
    let r = call x a op in
    Stands (number_after op r.answer (state_of x a).slots i) s (state_of r.index r.arrays).slots
