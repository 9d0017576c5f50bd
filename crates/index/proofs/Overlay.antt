-- A value written over arrays that have the room for it is read back, and no array's length changes.
use mathlib.Core.Path.{◌≡◌, refl, sym, ap, ◌∙◌}
use mathlib.Core.Bool.{Bool, true, false, cond}
use mathlib.Core.List.{List, [], ◌∷◌, map}
use mathlib.Core.Option.{Option, none, some}
use Prim.Native.Nat.{ℕ, ◌*◌, ◌/◌, ◌≤◌, ◌<◌, min}
use native.Mathlib.Nat.{mul-le-mul_right, div-mul-le_self}
use native.Mathlib.Omega.{arith}
use lib.ListN.{length, get_or, length-map, get_or-map}
use Rattle.lists.specs.Lists.{tab, over, joined}
use Rattle.lists.specs.Keep.{Each}
use Rattle.lists.proofs.Laws.{length-tab, length_over}
use Rattle.lists.proofs.Keep.{each_weaken}
use Rattle.lists.proofs.Front.{tab-is, get_or-over-map, each_map, each_at}
use Rattle.encode.specs.declared.Header.{Header}
use Rattle.encode.specs.Header.{block_size}
use Rattle.codes.specs.Stage.{Stage}
use Rattle.index.specs.Arrays.{Arrays, unmarked}
use Rattle.index.specs.State.{Mark, dead, unkeyed, keyed, Slot, State, rooms, least, capacity, mark_of, stage_at, slot_at, state_of, record_of, alive_of, has_key, key_word, position, seconds, scales_of, blocks_of, overlay}
use Rattle.index.specs.Sound.{Shaped, AllShaped, block_length}
use Rattle.index.proofs.Blocks.{block-over, length-over-blocks}

-- ---- room

abbrev Reaching : ℕ → List ℕ → Type 0
Reaching n ms = Each (λ m. n ≤ m) ms

least-reached : (n m : ℕ) (ms : List ℕ) → n ≤ least m ms → (n ≤ m) × Reaching n ms
unfolding least
least-reached n m [] h = (h, tt)
least-reached n m (k ∷ ms) h = let r = least-reached n (min m k) ms h in (omega (arith, r.0), (omega (arith, r.0), r.1))

-- each array has places for n slots
pub record Roomy (n : ℕ) (h : Header) (a : Arrays) : Type 0 where
  pub codes : n * block_size h ≤ length a.codes
  pub scales : n ≤ length a.scales
  pub keys : n ≤ length a.keys
  pub keyed : n ≤ length a.keyed
  pub held : n ≤ length a.held
  pub alive : n ≤ length a.alive
  pub years : n ≤ length a.years
  pub codes2 : h.residual ≡ true → n * block_size h ≤ length a.codes2
  pub scales2 : h.residual ≡ true → n ≤ length a.scales2

blocks-room : (n w l : ℕ) → n ≤ l / w → n * w ≤ l
blocks-room n w l h = omega (arith, mul-le-mul_right w h, div-mul-le_self l w)

pub roomy : (n : ℕ) (h : Header) (a : Arrays) → n ≤ capacity h a → Roomy n h a
unfolding rooms
roomy n h a l =
    let r = (least-reached n 65536 (rooms h a) l).1 in
    record {
      codes = blocks-room n (block_size h) (length a.codes) r.0;
      scales = r.1.0;
      keys = r.1.1.0;
      keyed = r.1.1.1.0;
      held = r.1.1.1.1.0;
      alive = r.1.1.1.1.1.0;
      years = r.1.1.1.1.1.1.0;
      codes2 = λ e. blocks-room n (block_size h) (length a.codes2) (second h.residual e r.1.1.1.1.1.1.1).0;
      scales2 = λ e. (second h.residual e r.1.1.1.1.1.1.1).1.0;
    }
  where
    second : (b : Bool) → b ≡ true → Reaching n (cond b (length a.codes2 / block_size h ∷ length a.scales2 ∷ []) []) →
        Reaching n (length a.codes2 / block_size h ∷ length a.scales2 ∷ [])
    second true e r = r
    second false e r = absurd (let z : ◌≡◌ {A = ℕ} 0 1 = cc in omega arith)

-- ---- stages

module _ (h : Header) (gs : List Stage) (scales codes : List ℕ) (sized : Each (λ g. length g.block ≡ block_size h) gs) (room : length gs * block_size h ≤ length codes) where
  abbrev blocks : List (List ℕ)
  blocks = map (λ g. g.block) gs

  blocks-sized : Each (λ b. length b ≡ block_size h) blocks
  blocks-sized = each_map (λ b. length b ≡ block_size h) (λ g. g.block) gs sized

  blocks-fit : length blocks * block_size h ≤ length codes
  blocks-fit = rw (length-map gs (λ g. g.block)) room

  length-blocks : length (over (blocks_of gs) codes) ≡ length codes
  length-blocks = length-over-blocks (block_size h) blocks codes blocks-sized blocks-fit

  stage-over : (i : ℕ) (d : Stage) → i < length gs → stage_at h (over (scales_of gs) scales) (over (blocks_of gs) codes) i ≡ get_or gs i d
  stage-over i d l =
      λ j. record {
        scale = get_or-over-map (λ (g : Stage). g.scale) gs scales i d 0 l j;
        block = (block-over (block_size h) blocks codes blocks-sized blocks-fit i d.block (rw (length-map gs (λ g. g.block)) l) ∙ get_or-map (λ (g : Stage). g.block) gs i d) j;
      }

abbrev pub stage_or : Stage → Option Stage → Stage
stage_or f none = f
stage_or f (some g) = g

-- the second stage, which a residual index has
abbrev pub second_of : Slot → Stage
second_of s = stage_or s.code.first s.code.second

module _ (h : Header) where
  -- what `Shaped` says of the second stage
  pub plain-none : h.residual ≡ false → (s : Slot) → Shaped h s.code → s.code.second ≡ none
  plain-none e s c = go s.code.second (c.second ∙ rw e)
    where
      go : (o : Option Stage) → block_length o ≡ none → o ≡ none
      go none p = refl
      go (some g) p = absurd (let z : ◌≡◌ {A = ℕ} 0 1 = cc in omega arith)

  pub residual-some : h.residual ≡ true → (s : Slot) → Shaped h s.code → (s.code.second ≡ some (second_of s)) × (length (second_of s).block ≡ block_size h)
  residual-some e s c = go s.code.second (c.second ∙ rw e)
    where
      go : (o : Option Stage) → block_length o ≡ some (block_size h) → (o ≡ some (stage_or s.code.first o)) × (length (stage_or s.code.first o).block ≡ block_size h)
      go none p = absurd (let z : ◌≡◌ {A = ℕ} 0 1 = cc in omega arith)
      go (some g) p = (refl, cc)

  pub plain-seconds : h.residual ≡ false → (ss : List Slot) → AllShaped h ss → seconds ss ≡ []
  unfolding seconds
  plain-seconds e [] c = refl
  plain-seconds e (s ∷ ss) c = rw (plain-none e s c.0) (plain-seconds e ss c.1)

  pub residual-seconds : h.residual ≡ true → (ss : List Slot) → AllShaped h ss → seconds ss ≡ map second_of ss
  unfolding seconds
  residual-seconds e [] c = refl
  residual-seconds e (s ∷ ss) c = rw ((residual-some e s c.0).0, residual-seconds e ss c.1)

-- ---- the value

-- arrays of the same lengths
pub record SameLengths (a b : Arrays) : Type 0 where
  pub codes : length a.codes ≡ length b.codes
  pub scales : length a.scales ≡ length b.scales
  pub keys : length a.keys ≡ length b.keys
  pub keyed : length a.keyed ≡ length b.keyed
  pub held : length a.held ≡ length b.held
  pub alive : length a.alive ≡ length b.alive
  pub codes2 : length a.codes2 ≡ length b.codes2
  pub scales2 : length a.scales2 ≡ length b.scales2
  pub years : length a.years ≡ length b.years

pub same-lengths : {a b c : Arrays} → SameLengths a b → SameLengths b c → SameLengths a c
same-lengths e f =
    record {
      codes = e.codes ∙ f.codes;
      scales = e.scales ∙ f.scales;
      keys = e.keys ∙ f.keys;
      keyed = e.keyed ∙ f.keyed;
      held = e.held ∙ f.held;
      alive = e.alive ∙ f.alive;
      codes2 = e.codes2 ∙ f.codes2;
      scales2 = e.scales2 ∙ f.scales2;
      years = e.years ∙ f.years;
    }

pub same-rooms : (h : Header) (a b : Arrays) → SameLengths a b → rooms h a ≡ rooms h b
unfolding rooms
same-rooms h a b e = rw (e.codes, e.scales, e.keys, e.keyed, e.held, e.alive, e.codes2, e.scales2, e.years)

length-over-map : {A B : Type 0} (g : A → B) (ys : List A) (xs : List B) → length ys ≤ length xs → length (over (map g ys) xs) ≡ length xs
length-over-map g ys xs l = length_over (map g ys) xs (rw (length-map ys g) l)

mark-same : {l m : ℕ} {on off : Bool} {k j p q : ℕ} → l ≡ m → on ≡ off → k ≡ j → p ≡ q → mark_of l on k p ≡ mark_of m off j q
mark-same e f g h = λ i. mark_of (e i) (f i) (g i) (h i)

mark-parts : (m : Mark) → mark_of (alive_of m) (has_key m) (key_word m) (position m) ≡ m
mark-parts (dead u) = refl
mark-parts (unkeyed u) = refl
mark-parts (keyed k p) = refl

module _ (h : Header) (a : Arrays) (ss : List Slot) (shape : AllShaped h ss) (space : length ss ≤ capacity h a) where
  abbrev firsts : List Stage
  firsts = map (λ s. s.code.first) ss

  firsts-sized : Each (λ g. length g.block ≡ block_size h) firsts
  firsts-sized = each_map (λ g. length g.block ≡ block_size h) (λ s. s.code.first) ss (each_weaken (λ s. Shaped h s.code) (λ s. length s.code.first.block ≡ block_size h) ss (λ s c. c.first) shape)

  seconds-sized : h.residual ≡ true → Each (λ g. length g.block ≡ block_size h) (map second_of ss)
  seconds-sized e = each_map (λ g. length g.block ≡ block_size h) second_of ss (each_weaken (λ s. Shaped h s.code) (λ s. length (second_of s).block ≡ block_size h) ss (λ s c. (residual-some h e s c).1) shape)

  mark-over : (i : ℕ) (d : Slot) → i < length ss → (slot_at h (overlay a ss) i).mark ≡ (get_or ss i d).mark
  unfolding slot_at overlay
  mark-over i d l =
      mark-same
      (get_or-over-map (λ (s : Slot). alive_of s.mark) ss a.alive i d 0 l) (get_or-over-map (λ (s : Slot). has_key s.mark) ss a.keyed i d false l)
      (get_or-over-map (λ (s : Slot). key_word s.mark) ss a.keys i d 0 l) (get_or-over-map (λ (s : Slot). position s.mark) ss a.held i d 0 l)
      ∙ mark-parts (get_or ss i d).mark

  first-over : (i : ℕ) (d : Slot) → i < length ss → (slot_at h (overlay a ss) i).code.first ≡ (get_or ss i d).code.first
  unfolding slot_at overlay
  first-over i d l =
      stage-over h firsts a.scales a.codes firsts-sized (rw (length-map ss (λ s. s.code.first)) (roomy (length ss) h a space).codes) i d.code.first (rw (length-map ss (λ s. s.code.first)) l)
      ∙ get_or-map (λ (s : Slot). s.code.first) ss i d

  second-over : (i : ℕ) (d : Slot) → i < length ss → (slot_at h (overlay a ss) i).code.second ≡ (get_or ss i d).code.second
  unfolding slot_at overlay
  second-over i d l = go h.residual refl
    where
      go : (b : Bool) → h.residual ≡ b → (slot_at h (overlay a ss) i).code.second ≡ (get_or ss i d).code.second
      go true e =
          rw (e, residual-seconds h e ss shape, (residual-some h e (get_or ss i d) (each_at (λ s. Shaped h s.code) ss i d shape l)).0)
          (ap some
          (stage-over h (map second_of ss) a.scales2 a.codes2 (seconds-sized e) (rw (length-map ss second_of) ((roomy (length ss) h a space).codes2 e)) i (second_of d) (rw (length-map ss second_of) l)
          ∙ get_or-map second_of ss i d))
      go false e = rw e (sym (plain-none h e (get_or ss i d) (each_at (λ s. Shaped h s.code) ss i d shape l)))

  year-over : (i : ℕ) (d : Slot) → i < length ss → (slot_at h (overlay a ss) i).year ≡ (get_or ss i d).year
  unfolding slot_at overlay
  year-over i d l = get_or-over-map (λ (s : Slot). s.year) ss a.years i d 0 l

  -- what was written is read
  pub slots-back : tab (slot_at h (overlay a ss)) (length ss) ≡ ss
  slots-back = tab-is (slot_at h (overlay a ss)) ss (λ i d l j. record { mark = mark-over i d l j; code = record { first = first-over i d l j; second = second-over i d l j }; year = year-over i d l j })

  pub overlay-lengths : SameLengths (overlay a ss) a
  unfolding overlay over joined
  overlay-lengths =
      let r = roomy (length ss) h a space in
      record {
        codes = length-blocks h firsts a.scales a.codes firsts-sized (rw (length-map ss (λ s. s.code.first)) r.codes);
        scales = length-over-map (λ (g : Stage). g.scale) firsts a.scales (rw (length-map ss (λ s. s.code.first)) r.scales);
        keys = length-over-map (λ (s : Slot). key_word s.mark) ss a.keys r.keys;
        keyed = length-over-map (λ (s : Slot). has_key s.mark) ss a.keyed r.keyed;
        held = length-over-map (λ (s : Slot). position s.mark) ss a.held r.held;
        alive = length-over-map (λ (s : Slot). alive_of s.mark) ss a.alive r.alive;
        codes2 = codes2 h.residual refl;
        scales2 = scales2 h.residual refl;
        years = length-over-map (λ (s : Slot). s.year) ss a.years r.years;
      }
    where
      codes2 : (b : Bool) → h.residual ≡ b → length (over (blocks_of (seconds ss)) a.codes2) ≡ length a.codes2
      codes2 true e = rw (residual-seconds h e ss shape) (length-blocks h (map second_of ss) a.scales2 a.codes2 (seconds-sized e) (rw (length-map ss second_of) ((roomy (length ss) h a space).codes2 e)))
      codes2 false e = rw (plain-seconds h e ss shape)

      scales2 : (b : Bool) → h.residual ≡ b → length (over (scales_of (seconds ss)) a.scales2) ≡ length a.scales2
      scales2 true e = rw (residual-seconds h e ss shape) (length-over-map (λ (g : Stage). g.scale) (map second_of ss) a.scales2 (rw (length-map ss second_of) ((roomy (length ss) h a space).scales2 e)))
      scales2 false e = rw (plain-seconds h e ss shape)

  pub overlay-capacity : capacity h (overlay a ss) ≡ capacity h a
  overlay-capacity = ap (least 65536) (same-rooms h (overlay a ss) a overlay-lengths)

pub read_back : (s : State) (a : Arrays) → AllShaped s.header s.slots → length s.slots ≤ capacity s.header a → state_of (record_of s) (overlay a s.slots) ≡ s
unfolding state_of record_of
read_back s a shape space = λ i. record { header = s.header; cascade = s.cascade; slots = slots-back s.header a s.slots shape space i }

-- ---- arrays in which no slot is marked

pub unmarked-lengths : (a : Arrays) → SameLengths (unmarked a) a
unmarked-lengths a =
    record { codes = refl; scales = refl; keys = refl; keyed = refl; held = refl; alive = length-tab (λ i. 0) (length a.alive); codes2 = refl; scales2 = refl; years = refl }

pub unmarked-capacity : (h : Header) (a : Arrays) → capacity h (unmarked a) ≡ capacity h a
unmarked-capacity h a = ap (least 65536) (same-rooms h (unmarked a) a (unmarked-lengths a))
