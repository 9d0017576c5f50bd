-- The live slots of a value, by the live marks of its arrays.
use mathlib.Core.Path.{◌≡◌, sym, ap, ◌∙◌}
use mathlib.Core.Bool.{true, false}
use mathlib.Core.List.{map}
use Prim.Native.Nat.{ℕ}
use lib.ListN.{length, length-map, get_or}
use Rattle.lists.specs.Keep.{keep, count}
use Rattle.lists.proofs.Keep.{length-keep, count_map}
use Rattle.lists.proofs.Front.{map-tab}
use Rattle.index.specs.declared.Index.{Index}
use Rattle.index.specs.Arrays.{Arrays}
use Rattle.index.specs.State.{live, header_of, slot_at, state_of, record_of}
use Rattle.index.specs.Fit.{fit}
use Rattle.index.specs.Step.{live_from}
use Rattle.index.proofs.Fits.{record-self}
use Rattle.index.proofs.Marks.{mark-live}
use Rattle.lists.specs.Lists.{below}
use Rattle.held.proofs.Live.{cell_at, live-tab}
use Rattle.marks.specs.Live.{live_at}
use Rattle.asking.proofs.Cells.{cells}

module _ (x : Index) (a : Arrays) where
  slot-live : (i : ℕ) → live (slot_at (header_of x) a i) ≡ live_at a.alive i
  unfolding slot_at
  slot-live i = mark-live (get_or a.alive i 0) (get_or a.keyed i false) (get_or a.keys i 0) (get_or a.held i 0)

  pub live-cells : live_from 0 (state_of x a).slots ≡ cells (header_of x) a a.alive x.n
  unfolding state_of
  live-cells =
      live-tab (slot_at (header_of x) a) x.n ∙ (λ j. map (cell_at (slot_at (header_of x) a) x.n) (keep (λ i. slot-live i j) (below x.n)))

  pub live-length : fit x a ≡ true → length (live_from 0 (state_of x a).slots) ≡ x.live
  unfolding state_of record_of
  live-length e =
      let f = slot_at (header_of x) a in
      ap length (live-tab f x.n) ∙ length-map (keep (λ i. live (f i)) (below x.n)) (cell_at f x.n) ∙ length-keep (λ i. live (f i)) (below x.n)
      ∙ sym (count_map f live (below x.n)) ∙ ap (count live) (map-tab f (λ i. i) x.n) ∙ ap (λ (y : Index). y.live) (record-self x a e)
