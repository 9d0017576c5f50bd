-- A compaction array by array is the index's.
use mathlib.Core.Path.{◌≡◌, refl, sym, ap, ap₂, ◌∙◌}
use mathlib.Core.Bool.{Bool, true, false, not, cond, ◌&&◌}
use mathlib.Core.List.{List, map, map-map}
use Prim.Native.Nat.{ℕ, ◌/◌, ◌≤◌}
use native.Mathlib.Omega.{arith}
use lib.ListN.{length, get_or}
use lib.Dec.{leb}
use Rattle.lists.specs.Lists.{tab, over, joined}
use Rattle.lists.specs.Keep.{keep, count, any}
use Rattle.lists.proofs.Laws.{length-tab}
use Rattle.lists.proofs.Keep.{each_keep, each-kept, count_map, count-all, length-keep}
use Rattle.lists.proofs.Front.{get_or-over-map, tab-map, each_map, map_each}
use Rattle.encode.specs.declared.Header.{Header}
use Rattle.encode.specs.Header.{block_size}
use Rattle.codes.specs.Stage.{Stage}
use Rattle.index.specs.declared.Index.{Index}
use Rattle.index.specs.Arrays.{Arrays, unmarked}
use Rattle.index.specs.State.{Slot, live, header_of, capacity, stage_at, slot_at, state_of, record_of, alive_of, has_key, key_word, position, seconds, scales_of, blocks_of, overlay, with_counts}
use Rattle.index.specs.Fit.{fit}
use Rattle.index.specs.Step.{rising, compacted, with_slots, step, compact, done}
use Rattle.index.specs.Call.{call}
use Rattle.index.specs.Answers.{result_of}
use Rattle.index.specs.Sound.{Shaped, AllShaped}
use Rattle.index.proofs.Fits.{slots-shaped}
use Rattle.index.proofs.Calls.{call_fits}
use Rattle.index.proofs.Overlay.{second_of, plain-seconds, residual-seconds}
use Rattle.fit.specs.Fits.{Fits, Enough}
use Rattle.fit.proofs.Rooms.{enough}
use Rattle.fit.proofs.Meaning.{meaning}
use Rattle.held_order.specs.Restored.{rising_position}
use Rattle.compact.specs.Gathered.{live_slots, gathered, gathered_blocks, Downward, with_kept}
use Rattle.compact.proofs.Gathering.{over-over}
use Rattle.compact.proofs.Rising.{rising-map, rising-length, rising-positions}
use Rattle.compact.proofs.Kept.{few-kept, numbers-down, gathered-kept, blocks-kept, kept_slots, kept-length, kept_map, kept-words, kept-keyed, kept-alive, none-dead}
use Rattle.marks.specs.Live.{no_marks}

module _ (h : Header) (a : Arrays) (n : ℕ) (space : n ≤ capacity h a) (old : List ℕ) (places : n ≤ length old) where
  abbrev nums : List ℕ
  nums = live_slots a.alive n

  abbrev from : List ℕ
  from = over nums old

  abbrev kept : ℕ
  kept = length nums

  abbrev ts : List Slot
  ts = kept_slots h a n

  abbrev rs : List Slot
  rs = rising (λ k. 0) ts

  -- ---- stages

  module _ (scales codes : List ℕ) (gs : List Stage) (e : gs ≡ map (stage_at h scales codes) nums) where
    stage-blocks : gathered_blocks from kept (block_size h) codes ≡ over (blocks_of gs) codes
    stage-blocks =
        blocks-kept a.alive n old places (block_size h) codes
        ∙ ap (λ (bs : List (List ℕ)). over (joined bs) codes) (sym (ap (map (λ (g : Stage). g.block)) e ∙ map-map (λ (g : Stage). g.block) (stage_at h scales codes) nums))

    stage-scales : gathered from kept 0 scales ≡ over (scales_of gs) scales
    stage-scales =
        gathered-kept a.alive n old places 0 scales
        ∙ ap (λ (ys : List ℕ). over ys scales) (sym (ap (map (λ (g : Stage). g.scale)) e ∙ map-map (λ (g : Stage). g.scale) (stage_at h scales codes) nums))

  firsts : map (λ s. s.code.first) rs ≡ map (stage_at h a.scales a.codes) nums
  unfolding slot_at
  firsts = rising-map (λ s. s.code.first) (λ k p q c. refl) (λ k. 0) ts ∙ kept_map h a n (λ s. s.code.first)

  shaped : AllShaped h ts
  shaped = each_keep (λ s. Shaped h s.code) live (tab (slot_at h a) n) (slots-shaped h a n space)

  rising-shaped : AllShaped h rs
  rising-shaped =
      map_each (Shaped h) (λ s. s.code) rs
      (rw (rising-map (λ s. s.code) (λ k p q c. refl) (λ k. 0) ts) (each_map (Shaped h) (λ s. s.code) ts shaped))

  -- of a residual index
  second-stages : h.residual ≡ true → seconds rs ≡ map (stage_at h a.scales2 a.codes2) nums
  unfolding slot_at
  second-stages e =
      residual-seconds h e rs rising-shaped ∙ rising-map second_of (λ k p q c. refl) (λ k. 0) ts ∙ kept_map h a n second_of ∙ rw e

  second-blocks : gathered_blocks from (cond h.residual kept 0) (block_size h) a.codes2 ≡ over (blocks_of (seconds rs)) a.codes2
  unfolding gathered_blocks joined
  second-blocks = go h.residual refl
    where
      go : (b : Bool) → h.residual ≡ b → gathered_blocks from (cond b kept 0) (block_size h) a.codes2 ≡ over (blocks_of (seconds rs)) a.codes2
      go true e = stage-blocks a.scales2 a.codes2 (seconds rs) (second-stages e)
      go false e = rw (plain-seconds h e rs rising-shaped)

  second-scales : gathered from (cond h.residual kept 0) 0 a.scales2 ≡ over (scales_of (seconds rs)) a.scales2
  unfolding gathered
  second-scales = go h.residual refl
    where
      go : (b : Bool) → h.residual ≡ b → gathered from (cond b kept 0) 0 a.scales2 ≡ over (scales_of (seconds rs)) a.scales2
      go true e = stage-scales a.scales2 a.codes2 (seconds rs) (second-stages e)
      go false e = rw (plain-seconds h e rs rising-shaped)

  -- ---- keys and marks

  words : gathered from kept 0 a.keys ≡ over (map (λ s. key_word s.mark) ts) a.keys
  words = gathered-kept a.alive n old places 0 a.keys ∙ ap (λ (ys : List ℕ). over ys a.keys) (sym (kept-words h a n))

  keyed-marks : gathered from kept false a.keyed ≡ over (map (λ s. has_key s.mark) ts) a.keyed
  keyed-marks = gathered-kept a.alive n old places false a.keyed ∙ ap (λ (ys : List Bool). over ys a.keyed) (sym (kept-keyed h a n))

  positions : over (tab (rising_position (gathered from kept 0 a.keys) (gathered from kept false a.keyed)) kept) a.held ≡ over (map (λ s. position s.mark) rs) a.held
  positions =
      ap (λ (ys : List ℕ). over ys a.held)
      (sym (rising-positions ts (gathered from kept 0 a.keys) (gathered from kept false a.keyed)
      (λ i d l. ap (λ (xs : List ℕ). get_or xs i 0) words ∙ get_or-over-map (λ (s : Slot). key_word s.mark) ts a.keys i d 0 l)
      (λ i d l. ap (λ (xs : List Bool). get_or xs i false) keyed-marks ∙ get_or-over-map (λ (s : Slot). has_key s.mark) ts a.keyed i d false l)
      ∙ ap (tab (rising_position (gathered from kept 0 a.keys) (gathered from kept false a.keyed))) (kept-length h a n)))

  alive-marks : over (tab (λ i. 1) kept) (no_marks a.alive) ≡ over (map (λ s. alive_of s.mark) rs) (no_marks a.alive)
  alive-marks =
      ap (λ (ys : List ℕ). over ys (no_marks a.alive))
      (tab-map (λ i. 1) (λ i. 1) nums (λ i d l. refl) ∙ sym (rising-map (λ s. alive_of s.mark) (λ k p q c. refl) (λ k. 0) ts ∙ kept-alive h a n))

  -- ---- years

  years-kept : gathered from kept 0 a.years ≡ over (map (λ s. s.year) rs) a.years
  unfolding slot_at
  years-kept =
      gathered-kept a.alive n old places 0 a.years
      ∙ ap (λ (ys : List ℕ). over ys a.years) (sym (rising-map (λ s. s.year) (λ k p q c. refl) (λ k. 0) ts ∙ kept_map h a n (λ s. s.year)))

  -- ---- all arrays

  abbrev pub closed_up : Arrays
  closed_up =
      record {
        codes = gathered_blocks from kept (block_size h) a.codes;
        scales = gathered from kept 0 a.scales;
        keys = gathered from kept 0 a.keys;
        keyed = gathered from kept false a.keyed;
        held = over (tab (rising_position (gathered from kept 0 a.keys) (gathered from kept false a.keyed)) kept) a.held;
        alive = over (tab (λ i. 1) kept) (no_marks a.alive);
        codes2 = gathered_blocks from (cond h.residual kept 0) (block_size h) a.codes2;
        scales2 = gathered from (cond h.residual kept 0) 0 a.scales2;
        years = gathered from kept 0 a.years;
      }

  pub compacted-arrays : closed_up ≡ overlay (unmarked a) (compacted (tab (slot_at h a) n))
  unfolding overlay compacted
  compacted-arrays =
      λ j. record {
        codes = stage-blocks a.scales a.codes (map (λ s. s.code.first) rs) firsts j;
        scales = stage-scales a.scales a.codes (map (λ s. s.code.first) rs) firsts j;
        keys = (words ∙ ap (λ (ys : List ℕ). over ys a.keys) (sym (rising-map (λ s. key_word s.mark) (λ k p q c. refl) (λ k. 0) ts))) j;
        keyed = (keyed-marks ∙ ap (λ (ys : List Bool). over ys a.keyed) (sym (rising-map (λ s. has_key s.mark) (λ k p q c. refl) (λ k. 0) ts))) j;
        held = positions j;
        alive = alive-marks j;
        codes2 = second-blocks j;
        scales2 = second-scales j;
        years = years-kept j;
      }

-- ---- what the program has done

-- `slots` is held order once the numbers of the live slots were written over it, and `second` the number of second stages
pub record ClosedUp (x : Index) (a b : Arrays) (slots : List ℕ) (n size second : ℕ) : Type 0 where
  pub listed : slots ≡ over (live_slots a.alive x.n) a.held
  pub many : n ≡ length (live_slots a.alive x.n)
  pub size_is : size ≡ block_size (header_of x)
  pub second_is : second ≡ cond x.residual n 0
  pub codes : b.codes ≡ gathered_blocks slots n size a.codes
  pub scales : b.scales ≡ gathered slots n 0 a.scales
  pub keys : b.keys ≡ gathered slots n 0 a.keys
  pub keyed : b.keyed ≡ gathered slots n false a.keyed
  pub held : b.held ≡ over (tab (rising_position b.keys b.keyed) n) slots
  pub alive : b.alive ≡ over (tab (λ i. 1) n) (no_marks a.alive)
  pub codes2 : b.codes2 ≡ gathered_blocks slots second size a.codes2
  pub scales2 : b.scales2 ≡ gathered slots second 0 a.scales2
  pub years : b.years ≡ gathered slots n 0 a.years

module _ (x : Index) (a : Arrays) (e : fit x a ≡ true) where
  fits : Fits x a
  fits = (meaning x a).yes e

  room : Enough (header_of x) a x.n
  room = enough (header_of x) a x.n fits.room

  pub places-room : (x.n ≤ length a.held) × (x.n ≤ 65536)
  places-room = (room.held, room.few)

  module _ (slots : List ℕ) (n : ℕ) (listed : slots ≡ over (live_slots a.alive x.n) a.held) (many : n ≡ length (live_slots a.alive x.n)) where
    down : (space : ℕ) → x.n ≤ space → Downward slots n space
    down space l = rw (listed, many) (numbers-down a.alive x.n a.held room.held space l)

    kept-few : n ≤ x.n
    kept-few = rw many (few-kept a.alive x.n a.held room.held)

    pub first-room : (size : ℕ) → size ≡ block_size (header_of x) → Downward slots n (length a.codes / size) × Downward slots n (length a.scales)
    first-room size f = rw f (down (length a.codes / block_size (header_of x)) room.codes, down (length a.scales) room.scales)

    pub marks-room : (Downward slots n (length a.keys) × Downward slots n (length a.keyed)) × ((n ≤ length a.alive) × (n ≤ 65536))
    marks-room = (
      (down (length a.keys) room.keys, down (length a.keyed) room.keyed),
      (omega (arith, kept-few, room.alive), omega (arith, kept-few, room.few)),
    )

    pub years-room : Downward slots n (length a.years)
    years-room = down (length a.years) room.years

    pub second-room : (size second : ℕ) → size ≡ block_size (header_of x) → second ≡ cond x.residual n 0 → Downward slots second (length a.codes2 / size) × Downward slots second (length a.scales2)
    second-room size second f g = rw (f, g) (go x.residual refl)
      where
        none : (space : ℕ) → Downward slots 0 space
        none space = record { many = omega arith; down = λ j l. absurd (omega arith); below = λ j l. absurd (omega arith) }

        go : (b : Bool) → x.residual ≡ b → Downward slots (cond b n 0) (length a.codes2 / block_size (header_of x)) × Downward slots (cond b n 0) (length a.scales2)
        go true r = (down (length a.codes2 / block_size (header_of x)) (room.codes2 r), down (length a.scales2) (room.scales2 r))
        go false r = (none (length a.codes2 / block_size (header_of x)), none (length a.scales2))

  pub closed-up : (b : Arrays) (slots : List ℕ) (n size second : ℕ) → ClosedUp x a b slots n size second → b ≡ overlay (unmarked a) (compacted (state_of x a).slots)
  unfolding state_of
  closed-up b slots n size second c =
      (λ j. record {
        codes = (rw (c.listed, c.many, c.size_is) at c.codes) j;
        scales = (rw (c.listed, c.many) at c.scales) j;
        keys = (rw (c.listed, c.many) at c.keys) j;
        keyed = (rw (c.listed, c.many) at c.keyed) j;
        held = ((rw (c.keys, c.keyed, c.listed, c.many) at c.held) ∙ unlisted) j;
        alive = (rw c.many at c.alive) j;
        codes2 = (rw (c.second_is, c.listed, c.many, c.size_is) at c.codes2) j;
        scales2 = (rw (c.second_is, c.listed, c.many) at c.scales2) j;
        years = (rw (c.listed, c.many) at c.years) j;
      })
      ∙ compacted-arrays (header_of x) a x.n fits.room a.held room.held
    where
      nums : List ℕ
      nums = live_slots a.alive x.n

      from : List ℕ
      from = over nums a.held

      rising : List ℕ
      rising = tab (rising_position (gathered from (length nums) 0 a.keys) (gathered from (length nums) false a.keyed)) (length nums)

      unlisted : over rising from ≡ over rising a.held
      unlisted = over-over rising nums a.held (rw (length-tab (rising_position (gathered from (length nums) 0 a.keys) (gathered from (length nums) false a.keyed)) (length nums)) (omega arith))

-- ---- the record

module _ (x : Index) (a : Arrays) where
  abbrev slots : List Slot
  slots = tab (slot_at (header_of x) a) x.n

  abbrev number : ℕ
  number = length (live_slots a.alive x.n)

  all_live : count live (rising (λ k. 0) (keep live slots)) ≡ number
  all_live =
      sym (count_map live (λ b. b) (rising (λ k. 0) (keep live slots))) ∙ ap (count (λ b. b)) (rising-map live (λ k p q c. refl) (λ k. 0) (keep live slots))
      ∙ count_map live (λ b. b) (keep live slots) ∙ count-all live (keep live slots) (each-kept (λ s. live s ≡ true) live slots (λ s e. e)) ∙ kept-length (header_of x) a x.n

  cascade-kept : not (any (λ s. not (live s)) slots) ≡ leb x.n number
  cascade-kept = none-dead live slots ∙ ap₂ leb (length-tab (slot_at (header_of x) a) x.n) (sym (length-keep live slots) ∙ kept-length (header_of x) a x.n)

  pub compacted-record : with_kept x number ≡ record_of (with_slots (state_of x a) (x.cascade && not (any (λ s. not (live s)) slots)) (compacted slots))
  unfolding with_kept record_of state_of compacted
  compacted-record =
      λ j. with_counts x (sym (rising-length (λ k. 0) (keep live slots) ∙ kept-length (header_of x) a x.n) j) (sym all_live j) (x.cascade && sym cascade-kept j)

  -- ---- the call

  pub compacted-call : fit x a ≡ true → (y : Index) (b : Arrays) → y ≡ with_kept x number → b ≡ overlay (unmarked a) (compacted (state_of x a).slots) → result_of y b done ≡ call x a compact
  unfolding step state_of
  compacted-call e y b r s = (λ j. record { index = (r ∙ compacted-record) j; arrays = s j; answer = done }) ∙ sym (call_fits x a compact e)
