-- What reading gives back of what was written: the live slots, numbered from 0 in slot order, "scales rounded to halves".
use Rattle.std.specs.Prelude.{◌≡◌, false, List, map, ℕ, ◌^◌, ◌≤◌, ◌<◌, length, get_or}
use Rattle.std.proofs.Math.Option.{Option, none, some}
use Rattle.lists.specs.Keep.{Each}
use Rattle.half.specs.Half.{narrowed, widened}
use Rattle.codes.specs.Stage.{Stage}
use Rattle.encode.specs.declared.Header.{Header}
use Rattle.encode.specs.Coded.{Code}
use Rattle.index.specs.declared.Index.{Index}
use Rattle.index.specs.Verdict.{granted}
use Rattle.index.specs.Arrays.{Arrays}
use Rattle.index.specs.State.{Mark, dead, unkeyed, keyed, Slot, State, header_of, capacity, state_of, record_of, new_slot}
use Rattle.index.specs.File.{Entry}
use Rattle.index.specs.Step.{bytes, write, with_slots, compacted}
use Rattle.index.specs.Call.{call}
use Rattle.index.specs.Sound.{Shaped, Ranged}
use Rattle.index.specs.Read.{mark_from, read_into}

abbrev pub halved : Stage → Stage
halved g = record { scale = widened (narrowed g.scale); block = g.block }

abbrev pub halved_if : Option Stage → Option Stage
halved_if none = none
halved_if (some g) = some (halved g)

abbrev pub halved_code : Code → Code
halved_code c = record { first = halved c.first; second = halved_if c.second }

-- a slot that is read, before positions rise: its key and its year are those of the entry written
abbrev pub read_back : Entry → Slot
read_back e = new_slot (mark_from e.key) (halved_code e.code) e.year

-- The same of a slot that a compaction leaves: the word that stood in `keys` without a key is 0 now.
abbrev pub tidied_mark : Mark → Mark
tidied_mark (dead u) = dead u
tidied_mark (unkeyed u) = unkeyed 0
tidied_mark (keyed k p) = keyed k p

abbrev pub tidied : Slot → Slot
tidied s = new_slot (tidied_mark s.mark) (halved_code s.code) s.year

-- a value after it was written and read: what a compaction leaves, scales rounded to halves, the cascade off
unfoldable pub saved : State → State
saved s = with_slots s false (map tidied (compacted s.slots))

-- ---- what has a byte form: numbers that their fields hold

abbrev pub PatternLow : Option Stage → Type 0
PatternLow none = Unit
PatternLow (some g) = g.scale < 2 ^ 32

abbrev pub KeyLow : Option ℕ → Type 0
KeyLow none = Unit
KeyLow (some k) = k < 2 ^ 64

pub record Holdable (h : Header) (e : Entry) : Type 0 where
  pub shape : Shaped h e.code
  pub scale : e.code.first.scale < 2 ^ 32
  pub scale2 : PatternLow e.code.second
  pub key : KeyLow e.key
  pub year : e.year < 2 ^ 16

pub record Writable (h : Header) (es : List Entry) : Type 0 where
  pub header : Ranged h
  pub seed : h.seed < 2 ^ 64
  pub few : length es ≤ 65536
  pub entries : Each (Holdable h) es

-- ---- over the calls

-- what the types of the record's seed and of the lent arrays say: `u64`, `u32` for the patterns of scales, and `u16` for years
pub record Typed (x : Index) (a : Arrays) : Type 0 where
  pub seed : x.seed < 2 ^ 64
  pub scales : (i : ℕ) → get_or a.scales i 0 < 2 ^ 32
  pub scales2 : (i : ℕ) → get_or a.scales2 i 0 < 2 ^ 32
  pub keys : (i : ℕ) → get_or a.keys i 0 < 2 ^ 64
  pub years : (i : ℕ) → get_or a.years i 0 < 2 ^ 16

-- reading the file into the arrays is accepted, and the record that it hands back and the arrays that it leaves stand for the value
pub record Opens (b : Arrays) (file : List ℕ) (s : State) : Type 0 where
  pub answer : (read_into b file).answer ≡ granted (record_of s)
  pub value : state_of (record_of s) (read_into b file).arrays ≡ s

-- What `to_bytes` wrote, any arrays accept that have room for the live slots.
abbrev pub WrittenIsRead : Type 0
WrittenIsRead =
    (x : Index) (a : Arrays) → Typed x a → (places : ℕ) (file : List ℕ) → (call x a (write places)).answer ≡ bytes file →
    (b : Arrays) → x.live ≤ capacity (header_of x) b → Opens b file (saved (state_of x a))
