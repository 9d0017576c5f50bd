-- The scores of live arrivals of an index of one trait.
use mathlib.Core.Path.{◌≡◌, refl, sym, ap₂, subst}
use mathlib.Core.Bool.{true}
use mathlib.Core.List.{List, [], ◌∷◌, map}
use Prim.Native.Nat.{ℕ}
use lib.Ieee.{Float}
use Rattle.lists.specs.Keep.{Each}
use Rattle.lists.proofs.Keep.{each_keep}
use Rattle.lists.proofs.Front.{each_map, map_each}
use Rattle.encode.specs.declared.Header.{Header}
use Rattle.index.specs.State.{Slot, live, state_of}
use Rattle.index.specs.Codec.{score_of}
use Rattle.index.specs.Step.{Query, Cell}
use Rattle.index.specs.Sound.{Shaped}
use Rattle.index.specs.OneTrait.{one_trait, trait_score_of}
use Rattle.index.proofs.Fits.{fit-sound}
use Rattle.index.proofs.OneTrait.{trait-score}
use Rattle.histories.specs.Histories.{LiveArrival, Run, live_arrival, live_by, slots_of, scores, trait_scores}
use Rattle.histories.proofs.Cells.{cells-slots}
use Rattle.histories.proofs.Tracks.{marks-agree}
use Rattle.histories.proofs.Runs.{Good}

by-trait : (h : Header) → one_trait h ≡ true → (q : Query) (ls : List LiveArrival) → Each (λ l. Shaped h l.code) ls →
    map {B = ℕ × Float} (λ l. (l.arrival, score_of h q l.code)) ls ≡ map (λ l. (l.arrival, trait_score_of h q l.code)) ls
by-trait h one q [] shaped = refl
by-trait h one q (l ∷ ls) shaped =
    ap₂ (λ (x : Float) (xs : List (ℕ × Float)). (l.arrival, x) ∷ xs) (trait-score h one q l.code shaped.0) (by-trait h one q ls shaped.1)

module _ (r : Run) (g : Good r) where
  abbrev shape : Header → Slot → Type 0
  shape h s = Shaped h s.code

  -- their codes have the header's shape, as all slots in use do
  living-shaped : Each (λ l. Shaped r.told.header l.code) r.told.living
  unfolding state_of
  living-shaped =
      let all = subst (λ (h : Header). Each (shape h) (slots_of r)) g.header (fit-sound r.index r.arrays g.fits).shape in
      let kept = each_keep (shape r.told.header) live (slots_of r) all in
      let cells = live_by r.arrivals (slots_of r) in
      let slots = subst (Each (shape r.told.header)) (sym (cells-slots r.arrivals (slots_of r) g.tracks.places)) kept in
      subst (Each (λ l. Shaped r.told.header l.code)) (marks-agree g.tracks)
      (each_map (λ l. Shaped r.told.header l.code) live_arrival cells (map_each (shape r.told.header) (λ (c : Cell). c.slot) cells slots))

  pub told-by-trait : one_trait r.told.header ≡ true → (q : Query) → scores r q ≡ trait_scores r q
  told-by-trait one q = by-trait r.told.header one q r.told.living living-shaped
