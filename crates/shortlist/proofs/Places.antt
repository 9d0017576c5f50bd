-- What is chosen of the shortlist, by places in it, leads back to slots.
use mathlib.Core.Path.{◌≡◌, refl, ap, sym, ◌∙◌}
use mathlib.Core.Bool.{Bool, true, false, cond}
use mathlib.Core.List.{List, [], ◌++◌, map, map-map, map-id}
use mathlib.Core.Logic.{◌⊎◌}
use Prim.Native.Nat.{ℕ, max, ◌≤◌, ◌<◌}
use native.Mathlib.Nat.{add-zero, zero-add}
use native.Mathlib.Omega.{arith}
use lib.ListN.{length, take, drop, get_or, length-map, get_or-map}
use lib.Seq.{length-take-le, take_at, take-append_seam, drop-append_seam, get_or-append-add, get_or-drop, sets, sets-eq}
use lib.Dec.{leb, ltb}
use borrow.Author.Tests.{leb-true, le-leb, lt-ltb}
use Rattle.lists.specs.Lists.{tab, over}
use Rattle.lists.specs.Keep.{Each, numbered}
use Rattle.choose.specs.Choose.{choose}
use Rattle.lists.proofs.Laws.{get_d_default, tab-get_or, length_over, begun}
use Rattle.lists.proofs.Keep.{each_weaken, keep_all, length-numbered, get_d_numbered, unnumbered}
use Rattle.lists.proofs.Front.{map-tab, tab-is, each_map, map_each}
use Rattle.choose.proofs.Choice.{choose-map}
use Rattle.choose_slots.specs.Slots.{taking_part, listed, listed_within}
use Rattle.shortlist.specs.Shortlist.{shortened}
use Rattle.shortlist.proofs.Among.{all-reach, choose-live}

abbrev slot : ℕ × ℕ → ℕ
slot e = e.0

abbrev ord : ℕ × ℕ → ℕ
ord e = e.1

-- ---- entries are chosen as their places are

module _ (es : List (ℕ × ℕ)) (k : ℕ) where
  abbrev numbers : List ℕ
  numbers = map ord es

  abbrev places : List ℕ
  places = tab (λ i. i) (length es)

  abbrev number_at : ℕ → ℕ
  number_at i = get_or numbers i 0

  abbrev entry_at : ℕ → ℕ × ℕ
  entry_at i = get_or es i (0, 0)

  abbrev slot_at : ℕ → ℕ
  slot_at i = get_or (map slot es) i 0

  abbrev chosen : List ℕ
  chosen = choose number_at k places

  numbered-places : map (λ i. (i, number_at i)) places ≡ numbered 0 numbers
  numbered-places =
      map-tab (λ i. (i, number_at i)) (λ i. i) (length es) ∙
      ap (tab (λ i. (i, number_at i))) (sym (length-numbered 0 numbers ∙ length-map es ord)) ∙
      tab-is (λ i. (i, number_at i)) (numbered 0 numbers) (λ i d h. sym (own i d (rw (length-numbered 0 numbers) at h)))
    where
      own : (i : ℕ) (d : ℕ × ℕ) → i < length numbers → get_or (numbered 0 numbers) i d ≡ (i, number_at i)
      own i d h = rw (get_d_numbered 0 numbers i d h, zero-add i, get_d_default numbers i d.1 0 h)

  by-places : map slot (choose ord k (numbered 0 numbers)) ≡ chosen
  by-places =
      rw (← numbered-places) (ap (map slot) (choose-map ord (λ i. (i, number_at i)) k places)) ∙ map-map slot (λ i. (i, number_at i)) chosen ∙ map-id chosen

  by_entries : choose ord k es ≡ map entry_at chosen
  by_entries =
      let same : (λ (i : ℕ). ord (entry_at i)) ≡ number_at = λ j i. sym (get_or-map ord es i (0, 0)) j in
      ap (choose ord k) (sym (map-tab entry_at (λ i. i) (length es) ∙ tab-get_or es (0, 0))) ∙ choose-map ord entry_at k places ∙
      ap (λ (f : ℕ → ℕ). map entry_at (choose f k places)) same

  led-back : map slot_at (map slot (choose ord k (numbered 0 numbers))) ≡ map slot (choose ord k es)
  led-back =
      let same : slot_at ≡ (λ (i : ℕ). slot (entry_at i)) = λ j i. get_or-map slot es i (0, 0) j in
      ap (map slot_at) by-places ∙ ap (λ (f : ℕ → ℕ). map f chosen) same ∙ sym (ap (map slot) by_entries ∙ map-map slot entry_at chosen)

-- ---- the shortlist's entries

module _ (orders : List ℕ) (k n t : ℕ) (least : n ≡ max k 1) (positive : 0 < t) where
  abbrev short : List (ℕ × ℕ)
  short = shortened n t orders

  all_live : Each (λ o. ltb 0 o ≡ true) (map ord short)
  all_live =
      each_map (λ o. ltb 0 o ≡ true) ord short
      (each_weaken (λ e. leb t (ord e) ≡ true) (λ e. ltb 0 (ord e) ≡ true) short (λ e h. lt-ltb 0 (ord e) (omega (arith, leb-true t (ord e) h))) (all-reach ord n t (numbered 0 orders)))

  all-entered : taking_part (map ord short) ≡ numbered 0 (map ord short)
  unfolding taking_part
  all-entered =
      keep_all (λ (e : ℕ × ℕ). ltb 0 e.1) (numbered 0 (map ord short))
      (map_each (λ o. ltb 0 o ≡ true) ord (numbered 0 (map ord short)) (rw (unnumbered 0 (map ord short)) all_live))

  module _ (enough : (n ≤ length short) ⊎ (t ≡ 1)) where
    abbrev name : ℕ → ℕ
    name i = get_or (map slot short) i 0

    listed-short : map name (listed (map ord short) k) ≡ listed orders k
    unfolding listed taking_part
    listed-short =
        ap (λ (es : List (ℕ × ℕ)). map name (map slot (choose ord k es))) all-entered ∙ led-back short k ∙
        ap (map slot) (choose-live ord k n t (numbered 0 orders) least positive enough)

    answered-short : length orders ≤ 65536 → length short ≤ 65536 → (slots : List ℕ) → map name (listed_within (map ord short) k slots) ≡ listed_within orders k slots
    unfolding listed_within
    answered-short few less slots =
        let same : length (listed (map ord short) k) ≡ length (listed orders k) = sym (length-map (listed (map ord short) k) name) ∙ ap length listed-short in
        rw (le-leb (length orders) 65536 few, length-map short ord, le-leb (length short) 65536 less, same) (go (leb (length (listed orders k)) (length slots)))
      where
        go : (b : Bool) → map name (cond b (listed (map ord short) k) []) ≡ cond b (listed orders k) []
        go true = listed-short
        go false = refl

-- ---- parts of arrays

-- the first places, once xs was written to them
pub written-part : (xs places : List ℕ) {n : ℕ} → n ≡ length xs → n ≤ length places → take n (sets places 0 xs) ≡ xs
written-part xs places {n} e h =
    rw (sets-eq xs places 0 (omega arith), zero-add (length xs)) (take_at xs (drop (length xs) places) n (sym e))

pub over-reach : (xs places : List ℕ) {n : ℕ} {now : List ℕ} → n ≡ length xs → now ≡ over xs places → length xs ≤ length places → n ≤ length now
over-reach xs places e w h = rw (w, length_over xs places h) (omega arith)

-- f of each entry that was written over the first places
pub over-part : (f : ℕ → ℕ) (xs places : List ℕ) {n : ℕ} {now last : List ℕ} → n ≡ length xs → now ≡ over xs places → last ≡ map f (take n now) → last ++ drop n now ≡ over (map f xs) places
unfolding over
over-part f xs places {n} e w l =
    rw (l, w, e, take-append_seam xs (drop (length xs) places), drop-append_seam xs (drop (length xs) places), length-map xs f)

-- where a loop stands that fills places from the front, the place is as it was
pub begun-here : (l d : List ℕ) (i : ℕ) → i ≤ length l → get_or (begun l d i) i 0 ≡ get_or d i 0
begun-here l d i h = rw (add-zero (length (take i l)), length-take-le i l h) at (get_or-append-add (take i l) (drop i d) 0 0) ∙ rw (add-zero i) at (get_or-drop i d 0 0)

-- ---- the answer by way of the shortlist, m entries of which are in the first places of two arrays

module _ (orders : List ℕ) (k n t m : ℕ) (least : n ≡ max k 1) (positive : 0 < t) (many : m ≡ length (shortened n t orders)) (room : (m ≤ 4096) × ((n ≤ m) ⊎ (t ≡ 1))) (few : length orders ≤ 65536) where
  pub answers : (names₀ numbers₀ : List ℕ) {names numbers : List ℕ} → length names₀ ≡ 4096 → length numbers₀ ≡ 4096 → names ≡ sets names₀ 0 (map slot (shortened n t orders)) → numbers ≡ sets numbers₀ 0 (map ord (shortened n t orders)) →
      (slots : List ℕ) {r : ℕ} {after : List ℕ} → r ≡ length (listed_within (take m numbers) k slots) → after ≡ over (map (λ i. get_or (take m names) i 0) (listed_within (take m numbers) k slots)) slots →
      (r ≡ length (listed_within orders k slots)) × (after ≡ over (listed_within orders k slots) slots)
  answers names₀ numbers₀ {names} {numbers} l l' p q slots {r} {after} e f =
      let short : List (ℕ × ℕ) = shortened n t orders in
      let front : take m names ≡ map slot short = rw p (written-part (map slot short) names₀ (many ∙ sym (length-map short slot)) (omega (arith, room.0))) in
      let front' : take m numbers ≡ map ord short = rw q (written-part (map ord short) numbers₀ (many ∙ sym (length-map short ord)) (omega (arith, room.0))) in
      let same : map (λ i. get_or (map slot short) i 0) (listed_within (map ord short) k slots) ≡ listed_within orders k slots = answered-short orders k n t least positive (rw many at room.1) few (omega (arith, room.0)) slots in
      (rw front' at e ∙ sym (length-map (listed_within (map ord short) k slots) (λ i. get_or (map slot short) i 0)) ∙ ap length same, rw (front, front', same) at f)
