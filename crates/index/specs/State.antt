-- The index as a value: what a record and the lent arrays stand for, and how a value is written back over them.
use Rattle.std.specs.Prelude.{Bool, true, false, cond, List, [], ◌∷◌, map, ℕ, zero, suc, ◌*◌, ◌/◌, min, length, get_or, set}
use Rattle.std.proofs.Math.Option.{none, some}
use Rattle.lists.specs.Lists.{tab, joined, over, splice}
use Rattle.lists.specs.Keep.{count}
use Rattle.codes.specs.Slots.{block_at}
use Rattle.encode.specs.declared.Header.{Header}
use Rattle.encode.specs.Header.{block_size}
use Rattle.codes.specs.Stage.{Stage}
use Rattle.encode.specs.Coded.{Code}
use Rattle.index.specs.declared.Index.{Index}
use Rattle.index.specs.Arrays.{Arrays}

-- ---- values

-- 01: live marks and keys. A slot is dead, or live without a key, or live with a key and its position in held order, the order in which the key holds its slots.
-- The word that `keys` has at a slot without a key stays in the mark: it counts for nothing.
pub data Mark : Type 0 where
  dead unkeyed : ℕ → Mark
  keyed : ℕ → ℕ → Mark

-- 02, Req 06: "Each slot gains a 16-bit year: 0 is kept for good, 1 is no duty, any other the first year in which it may go."
pub record Slot : Type 0 where
  pub mark : Mark
  pub code : Code
  pub year : ℕ

abbrev pub new_slot : Mark → Code → (year : ℕ) → Slot
new_slot m c y = record { mark = m; code = c; year = y }

-- a slot with another mark, and with another code: all else stays
abbrev pub with_mark : Slot → Mark → Slot
with_mark s m = new_slot m s.code s.year

abbrev pub with_code : Slot → Code → Slot
with_code s c = new_slot s.mark c s.year

-- 01, "slots in use": dead ones included
pub record State : Type 0 where
  pub header : Header
  pub cascade : Bool
  pub slots : List Slot

abbrev pub is_live : Mark → Bool
is_live (dead u) = false
is_live (unkeyed u) = true
is_live (keyed k p) = true

abbrev pub live : Slot → Bool
live s = is_live s.mark

-- ---- what a record and arrays stand for

abbrev pub header_of : Index → Header
header_of x = record { dim = x.dim; working_dim = x.working_dim; seed = x.seed; bits = x.bits; residual = x.residual }

abbrev pub with_bits : Header → (bits : ℕ) → Header
with_bits h w = record { dim = h.dim; working_dim = h.working_dim; seed = h.seed; bits = w; residual = h.residual }

-- the record of a header with these counts
abbrev pub record_with : Header → (n live : ℕ) → (cascade : Bool) → Index
record_with h n live on =
    record {
      dim = h.dim;
      working_dim = h.working_dim;
      seed = h.seed;
      bits = h.bits;
      residual = h.residual;
      n = n;
      live = live;
      cascade = on;
    }

-- the same record with other counts, its cascade kept or ended
abbrev pub with_counts : Index → (n live : ℕ) → (cascade : Bool) → Index
with_counts x n live on = record_with (header_of x) n live on

-- How many slots each lent array of the index holds: "residual arrays only if residual" (01, 8).
unfoldable pub rooms : Header → Arrays → List ℕ
rooms h a =
    length a.codes / block_size h ∷ length a.scales ∷ length a.keys ∷ length a.keyed ∷ length a.held ∷ length a.alive ∷ length a.years
    ∷ cond h.residual (length a.codes2 / block_size h ∷ length a.scales2 ∷ []) []

unfoldable pub least : ℕ → List ℕ → ℕ
least m [] = m
least m (n ∷ ns) = least (min m n) ns

-- 01, 8: "the fewest slots that any lent array of the index holds, .. at most 65,536"
abbrev pub capacity : Header → Arrays → ℕ
capacity h a = least 65536 (rooms h a)

-- by the live mark and whether there is a key
abbrev pub mark_of : (alive : ℕ) → (keyed : Bool) → (key held : ℕ) → Mark
mark_of zero on k p = dead k
mark_of (suc m) false k p = unkeyed k
mark_of (suc m) true k p = keyed k p

abbrev pub stage_at : Header → (scales codes : List ℕ) → ℕ → Stage
stage_at h scales codes i = record { scale = get_or scales i 0; block = block_at (block_size h) i codes }

unfoldable pub slot_at : Header → Arrays → ℕ → Slot
slot_at h a i =
    record {
      mark = mark_of (get_or a.alive i 0) (get_or a.keyed i false) (get_or a.keys i 0) (get_or a.held i 0);
      code =
          record {
            first = stage_at h a.scales a.codes i;
            second = cond h.residual (some (stage_at h a.scales2 a.codes2 i)) none;
          };
      year = get_or a.years i 0;
    }

unfoldable pub state_of : Index → Arrays → State
state_of x a =
    record { header = header_of x; cascade = x.cascade; slots = tab (slot_at (header_of x) a) x.n }

-- ---- and back

-- the record of a value: the live count is that of its slots
unfoldable pub record_of : State → Index
record_of s = record_with s.header (length s.slots) (count live s.slots) s.cascade

abbrev pub alive_of : Mark → ℕ
alive_of (dead u) = 0
alive_of (unkeyed u) = 1
alive_of (keyed k p) = 1

abbrev pub has_key : Mark → Bool
has_key (dead u) = false
has_key (unkeyed u) = false
has_key (keyed k p) = true

abbrev pub key_word : Mark → ℕ
key_word (dead u) = u
key_word (unkeyed u) = u
key_word (keyed k p) = k

abbrev pub position : Mark → ℕ
position (dead u) = 0
position (unkeyed u) = 0
position (keyed k p) = p

-- the second stages, of a residual index alone
unfoldable pub seconds : List Slot → List Stage
seconds [] = []
seconds (s ∷ ss) = elim s.code.second [ none ↦ seconds ss | some g ↦ g ∷ seconds ss ]

abbrev pub scales_of : List Stage → List ℕ
scales_of gs = map (λ g. g.scale) gs

abbrev pub blocks_of : List Stage → List ℕ
blocks_of gs = joined (map (λ g. g.block) gs)

-- The slots over the first places of each array: 01, "Places past the new slots in use keep their contents".
unfoldable pub overlay : Arrays → List Slot → Arrays
overlay a ss =
    let firsts = map (λ (s : Slot). s.code.first) ss in
    record {
      codes = over (blocks_of firsts) a.codes;
      scales = over (scales_of firsts) a.scales;
      keys = over (map (λ s. key_word s.mark) ss) a.keys;
      keyed = over (map (λ s. has_key s.mark) ss) a.keyed;
      held = over (map (λ s. position s.mark) ss) a.held;
      alive = over (map (λ s. alive_of s.mark) ss) a.alive;
      codes2 = over (blocks_of (seconds ss)) a.codes2;
      scales2 = over (scales_of (seconds ss)) a.scales2;
      years = over (map (λ s. s.year) ss) a.years;
    }

-- A slot in its places, all others kept. Slots written so one after the other make an overlay (law `overlay-more`).
unfoldable pub put_slot : Header → Arrays → (i : ℕ) → Slot → Arrays
put_slot h a i s =
    let at = i * block_size h in
    let g = s.code.first in
    record {
      codes = splice at g.block a.codes;
      scales = set a.scales i g.scale;
      keys = set a.keys i (key_word s.mark);
      keyed = set a.keyed i (has_key s.mark);
      held = set a.held i (position s.mark);
      alive = set a.alive i (alive_of s.mark);
      codes2 = elim s.code.second [ none ↦ a.codes2 | some e ↦ splice at e.block a.codes2 ];
      scales2 = elim s.code.second [ none ↦ a.scales2 | some e ↦ set a.scales2 i e.scale ];
      years = set a.years i s.year;
    }
