-- Written, read and written again: the same bytes.
use mathlib.Core.Path.{◌≡◌, refl, sym, ap, ap₂, ◌∙◌}
use mathlib.Core.Bool.{Bool, true, not, cond, ◌&&◌}
use mathlib.Core.List.{List, [], ◌∷◌, ◌++◌, map, map-map}
use mathlib.Core.Option.{Option, none, some}
use Prim.Native.Nat.{ℕ, suc, ◌+◌}
use lib.ListN.{length, length-map}
use lib.Dec.{eqb}
use Rattle.lists.specs.Keep.{Each, all}
use Rattle.half.specs.Half.{narrowed}
use Rattle.codes.specs.Stage.{Stage}
use Rattle.encode.specs.declared.Header.{Header}
use Rattle.index.specs.State.{Slot, State, live}
use Rattle.lists.specs.Lists.{joined}
use Rattle.index.specs.Form.{form_of}
use Rattle.index.specs.File.{Entry, le_bytes, no_duty, version_with, version_of, width_byte, head_bytes, stage_bytes, second_stages, key_entries, file_of}
use Rattle.index.specs.Step.{live_from, key_of_mark, entry_of, file_bytes}
use Rattle.index.specs.Read.{slots_in, state_in}
use Rattle.index.proofs.Read.{mark-key, read_live}
use Rattle.compact.proofs.Rising.{rising-map}
use Rattle.round_trip.specs.Back.{halved, halved_if, halved_code, read_back, Writable}
use Rattle.round_trip.proofs.Halves.{narrow-again}
use Rattle.round_trip.proofs.Back.{slots-back, value-back}

-- an entry whose scales were rounded
abbrev halved_entry : Entry → Entry
halved_entry e = record { code = halved_code e.code; key = e.key; year = e.year }

-- ---- its bytes are the same

stage-again : (gs : List Stage) → stage_bytes (map halved gs) ≡ stage_bytes gs
stage-again gs =
    ap₂ (λ (ss bs : List (List ℕ)). joined ss ++ joined bs)
    (map-map (λ (g : Stage). le_bytes 2 (narrowed g.scale)) halved gs ∙ (λ i. map (λ (g : Stage). le_bytes 2 (narrow-again g.scale i)) gs))
    (map-map (λ (g : Stage). g.block) halved gs)

seconds-again : (es : List Entry) → second_stages (map halved_entry es) ≡ map halved (second_stages es)
unfolding second_stages
seconds-again [] = refl
seconds-again (e ∷ es) = go e.code.second (seconds-again es)
  where
    go : (o : Option Stage) → second_stages (map halved_entry es) ≡ map halved (second_stages es) →
        elim (halved_if o) [ none ↦ second_stages (map halved_entry es) | some g ↦ g ∷ second_stages (map halved_entry es) ] ≡ map halved (elim o [ none ↦ second_stages es | some g ↦ g ∷ second_stages es ])
    go none ih = ih
    go (some g) ih = ap (λ (gs : List Stage). halved g ∷ gs) ih

keys-again : (i : ℕ) (es : List Entry) → key_entries i (map halved_entry es) ≡ key_entries i es
unfolding key_entries
keys-again i [] = refl
keys-again i (e ∷ es) = go e.key (keys-again (suc i) es)
  where
    go : (o : Option ℕ) → key_entries (suc i) (map halved_entry es) ≡ key_entries (suc i) es →
        key_entries i (record { code = halved_code e.code; key = o; year = e.year } ∷ map halved_entry es) ≡ key_entries i (record { code = e.code; key = o; year = e.year } ∷ es)
    go none ih = ih
    go (some k) ih = ap (λ (bs : List (List ℕ)). (le_bytes 4 i ++ le_bytes 8 k) ∷ bs) ih

duty-again : (es : List Entry) → no_duty (map halved_entry es) ≡ no_duty es
unfolding all
duty-again [] = refl
duty-again (e ∷ es) = ap (λ (b : Bool). eqb e.year 1 && b) (duty-again es)

version-again : (h : Header) (es : List Entry) → version_of h (map halved_entry es) ≡ version_of h es
unfolding version_of
version-again h es = ap (λ (b : Bool). version_with h (not b)) (duty-again es)

file-again : (h : Header) (es : List Entry) → file_of h (map halved_entry es) ≡ file_of h es
unfolding file_of
file-again h es =
    let n : length (map halved_entry es) ≡ length es = length-map es halved_entry in
    let firsts : stage_bytes (map (λ e. e.code.first) (map halved_entry es)) ≡ stage_bytes (map (λ e. e.code.first) es) =
    ap stage_bytes (map-map (λ (e : Entry). e.code.first) halved_entry es ∙ sym (map-map halved (λ (e : Entry). e.code.first) es)) ∙ stage-again (map (λ e. e.code.first) es) in
    let seconds : stage_bytes (second_stages (map halved_entry es)) ≡ stage_bytes (second_stages es) = ap stage_bytes (seconds-again es) ∙ stage-again (second_stages es) in
    let keys = keys-again 0 es in
    let years : map (λ e. le_bytes 2 e.year) (map halved_entry es) ≡ map (λ e. le_bytes 2 e.year) es = map-map (λ (e : Entry). le_bytes 2 e.year) halved_entry es in
    λ i. head_bytes (version-again h es i) h (n i) ++ width_byte (version-again h es i) h ++ firsts i ++ seconds i ++ le_bytes 4 (length (keys i)) ++ joined (keys i)
    ++ cond (form_of (version-again h es i)).years (joined (years i)) []

-- ---- the entries of the slots that are read

abbrev entry_in : Slot → Entry
entry_in s = record { code = s.code; key = key_of_mark s.mark; year = s.year }

all_live : (i : ℕ) (ss : List Slot) → Each (λ s. live s ≡ true) ss → map entry_of (live_from i ss) ≡ map entry_in ss
unfolding live_from
all_live i [] h = refl
all_live i (s ∷ ss) h = rw h.0 (ap (λ (es : List Entry). entry_in s ∷ es) (all_live (suc i) ss h.1))

module _ (h : Header) (es : List Entry) (t : Writable h es) where
  abbrev file : List ℕ
  file = file_of h es

  entries-again : map entry_of (live_from 0 (slots_in file)) ≡ map halved_entry es
  entries-again =
      all_live 0 (slots_in file) (read_live file) ∙ ap (map entry_in) (slots-back h es t) ∙ rising-map entry_in (λ k p q c. refl) (λ k. 0) (map read_back es)
      ∙ map-map entry_in read_back es ∙ (λ i. map (λ (e : Entry). record { code = halved_code e.code; key = mark-key e.key i; year = e.year }) es)

  -- what was read is written as the same bytes
  pub written-again : file_bytes (state_in file).header (live_from 0 (state_in file).slots) ≡ file
  unfolding state_in
  written-again =
      ap₂ file_of (ap (λ (s : State). s.header) (value-back h es t)) entries-again ∙ file-again h es
