use mathlib.Core.Bool.{Bool}
use mathlib.Core.List.{List}
use Prim.Native.Nat.{ℕ}
use Rattle.slot_keys.specs.Has.{key_at}
use Rattle.listed.specs.Listing.{slot_line, half_in}
use Rattle.listing_text.proofs.Lines.{Lines}
use Rattle.listing_text.proofs.put_slots.Given as goal

abbrev pub line_of : (keys : List ℕ) → (keyed : List Bool) → (file : List ℕ) → (slot : ℕ) → List ℕ
line_of keys keyed file i = slot_line i (key_at keys keyed i) (half_in file i)

abbrev pub invariant-loop-slot : goal.invariant-loop-slot
invariant-loop-slot l = Lines (line_of l.keys l.keyed l.file) l.slot-end l.slot l.initial.out l.out
