-- The numbers of a file whose head and limits are sound.
use mathlib.Core.Path.{◌≡◌, sym, ap, ◌∙◌}
use mathlib.Core.Bool.{false, cond}
use mathlib.Core.List.{List}
use Prim.Native.Nat.{ℕ, ◌≤◌}
use native.Mathlib.Omega.{arith}
use lib.Dec.{eqb, leb, ltb}
use borrow.Author.Tests.{ltb-false, leb-true}
use Rattle.lists.proofs.Keep.{either}
use Rattle.lists.proofs.Front.{map-tab}
use Rattle.codes.specs.Writing.{at_width}
use Rattle.encode.specs.Header.{block_size}
use Rattle.index.specs.declared.Index.{Index}
use Rattle.index.specs.Arrays.{Arrays}
use Rattle.index.specs.State.{header_of, capacity, record_of}
use Rattle.index.specs.Read.{dim_in, count_in, working_field, header_in, head_fault, over_limits, entry_from, well_keyed, table_in, entry_count, entries_in, state_in}
use Rattle.lists.proofs.Tests.{and_left, and_right}
use Rattle.index.proofs.Kept.{when-none}
use Rattle.index.proofs.Read.{all-passed, or-none, not-not}
use Rattle.fit.proofs.Rooms.{in-width}
use Rattle.read.specs.Table.{slots_from}
use Rattle.layout.proofs.Numbers.{small-block}
use Rattle.read.specs.Parts.{keys_sound}

pub few-slots : (file : List ℕ) → over_limits file ≡ false → count_in file ≤ 65536
few-slots file low = ltb-false 65536 (count_in file) (or-none (ltb 4096 (dim_in file)) (ltb 65536 (count_in file)) low).1

-- the key entries' test by the table, the number of entries and that of slots
pub sound-is : (file table : List ℕ) (k n : ℕ) → table ≡ table_in file → k ≡ entry_count file → n ≡ count_in file →
    well_keyed n (slots_from table k) ≡ keys_sound file
unfolding entries_in slots_from
sound-is file table k n et ek en =
    rw (et, ek, en)
    (ap (well_keyed (count_in file)) (sym (map-tab (λ e. e.slot) (entry_from (table_in file)) (entry_count file))))

module _ (file : List ℕ) (head : head_fault file ≡ 0) where
  working-least : working_field file ≤ dim_in file
  unfolding head_fault
  working-least = ltb-false (dim_in file) (working_field file) (when-none _ 16 (all-passed _ head).1.1.1.0)

  width-least : 4 ≤ (header_in file).bits
  unfolding head_fault
  width-least = leb-true 4 (header_in file).bits (and_left _ (leb (header_in file).bits 6) (not-not _ (when-none _ 17 (all-passed _ head).1.1.1.1.1.0)))

  width-most : (header_in file).bits ≤ 6
  unfolding head_fault
  width-most = leb-true (header_in file).bits 6 (and_right (leb 4 (header_in file).bits) _ (not-not _ (when-none _ 17 (all-passed _ head).1.1.1.1.1.0)))

  -- the crates below give 0 at a width that no code has: here there is none
  pub at_width_lem : (n : ℕ) → at_width (header_in file).bits n ≡ n
  at_width_lem n = in-width (header_in file).bits n width-least width-most

  module _ (low : over_limits file ≡ false) where
    working-low : (header_in file).working_dim ≤ 4096
    unfolding header_in
    working-low = go (working_field file) working-least
      where
        few : dim_in file ≤ 4096
        few = ltb-false 4096 (dim_in file) (or-none (ltb 4096 (dim_in file)) (ltb 65536 (count_in file)) low).0

        go : (f : ℕ) → f ≤ dim_in file → cond (eqb f 0) (dim_in file) f ≤ 4096
        go f l = either (λ (w : ℕ). w ≤ 4096) (eqb f 0) few (omega (arith, few))

    pub low-block : block_size (header_in file) ≤ 4096
    low-block = small-block (header_in file) working-low width-most

  pub block-is : (x : Index) (block : ℕ) → x ≡ record_of (state_in file) → block ≡ at_width x.bits (block_size (header_of x)) → block ≡ block_size (header_in file)
  unfolding record_of state_in
  block-is x block e f = f ∙ ap (λ (y : Index). at_width y.bits (block_size (header_of y))) e ∙ at_width_lem (block_size (header_in file))

  -- the room that the arrays have for the file's slots
  pub room-is : (a : Arrays) (x : Index) (room : ℕ) → x ≡ record_of (state_in file) → room ≡ at_width x.bits (capacity (header_of x) a) → room ≡ capacity (header_in file) a
  unfolding record_of state_in
  room-is a x room e f = f ∙ ap (λ (y : Index). at_width y.bits (capacity (header_of y) a)) e ∙ at_width_lem (capacity (header_in file) a)
