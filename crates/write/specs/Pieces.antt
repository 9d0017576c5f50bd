-- The byte form slot by slot, by the lent arrays: document 01, "Only live slots are written, numbered from 0 in slot order, in the key entries too", and 02, Req 06, "with one
-- year per live slot, in slot order, after the key table".
-- That all of it together is the index's `file_of` is the law `file-pieces` of proofs/Pieces.antt.
use Rattle.std.specs.Prelude.{Bool, cond, List, [], ◌++◌, ℕ, get_or}
use Rattle.lists.specs.Lists.{tab, joined, below}
use Rattle.lists.specs.Keep.{count}
use Rattle.half.specs.Half.{narrowed}
use Rattle.codes.specs.Slots.{block_at}
use Rattle.encode.specs.declared.Header.{Header}
use Rattle.encode.specs.Header.{block_size}
use Rattle.index.specs.Arrays.{Arrays}
use Rattle.index.specs.Form.{form_of}
use Rattle.index.specs.File.{le_bytes, width_byte, head_bytes}
use Rattle.marks.specs.Live.{live_at}
use Rattle.layout.specs.Counts.{entry_at, counts_of}

-- what is written of the first n slots, one after the other
abbrev pub in_order : (ℕ → List ℕ) → (n : ℕ) → List ℕ
in_order piece n = joined (tab piece n)

-- a scale as a half; nothing of a dead slot
unfoldable pub scale_piece : (scales alive : List ℕ) → (slot : ℕ) → List ℕ
scale_piece scales alive i = cond (live_at alive i) (le_bytes 2 (narrowed (get_or scales i 0))) []

-- the codes of a slot
unfoldable pub code_piece : (codes alive : List ℕ) → (block slot : ℕ) → List ℕ
code_piece codes alive block i = cond (live_at alive i) (block_at block i codes) []

-- a key entry: the number among the live slots, and the key
unfoldable pub key_piece : (keys : List ℕ) → (keyed : List Bool) → (alive : List ℕ) → (slot : ℕ) → List ℕ
key_piece keys keyed alive i = cond (entry_at keyed alive i) (le_bytes 4 (count (live_at alive) (below i)) ++ le_bytes 8 (get_or keys i 0)) []

-- a year of 16 bits; nothing of a dead slot
unfoldable pub year_piece : (years alive : List ℕ) → (slot : ℕ) → List ℕ
year_piece years alive i = cond (live_at alive i) (le_bytes 2 (get_or years i 0)) []

-- one stage: "scales; codes"
unfoldable pub stage_pieces : (codes scales alive : List ℕ) → (block n : ℕ) → List ℕ
stage_pieces codes scales alive block n = in_order (scale_piece scales alive) n ++ in_order (code_piece codes alive block) n

-- "for 260 again scales and codes"
unfoldable pub second_pieces : (residual : Bool) → (codes2 scales2 alive : List ℕ) → (block n : ℕ) → List ℕ
second_pieces residual codes2 scales2 alive block n = cond residual (stage_pieces codes2 scales2 alive block n) []

-- the years, where the version has them
unfoldable pub year_pieces : (version : ℕ) → (years alive : List ℕ) → (n : ℕ) → List ℕ
year_pieces v years alive n = cond (form_of v).years (in_order (year_piece years alive) n) []

-- the whole file, in the version that the index is written as
unfoldable pub file_pieces : (version : ℕ) → Header → Arrays → (n : ℕ) → List ℕ
file_pieces v h a n =
    head_bytes v h (counts_of a.keyed a.years a.alive n).live ++ width_byte v h
    ++ stage_pieces a.codes a.scales a.alive (block_size h) n ++ second_pieces h.residual a.codes2 a.scales2 a.alive (block_size h) n
    ++ le_bytes 4 (counts_of a.keyed a.years a.alive n).keyed ++ in_order (key_piece a.keys a.keyed a.alive) n
    ++ year_pieces v a.years a.alive n
