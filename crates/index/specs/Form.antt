-- What each version of the byte form has, where each block of a file begins, and where the file ends: document 01, "format.rs, byte form". The layout serves the
-- versions that are only read as well. That a file which is written (`file_of`) lies so: the laws of the crate `layout`, proofs/Length.antt.
--
--   24 bytes: VECQ, version, working_dim, dim, seed, count │ width byte │ n scales, n blocks │ n scales, n blocks │ key count, k entries │ n years │
--                                                                       `stages_at`           `second_at`           `keys_at`               `years_at`  `end_at`
use Rattle.std.specs.Prelude.{cond, ◌||◌, ℕ, ◌+◌, ◌*◌, eqb, leb}
use Rattle.lists.specs.Keep.{bit}
use Rattle.index.specs.declared.Form.{Form}
use Rattle.index.specs.Fit.{between}

unfoldable pub form_of : (version : ℕ) → Form
form_of v =
    record {
      -- "Written: 259 at 4 bits, 260 residual, 261 at 5 and 6. Read: also .., 257, 258". 02, Req 06: "Others use a version 3 above the old one (262, 263, 264)"; "The unknown
      -- version among 01's examples becomes 265". Of version 1, with binary32 scales, 02 says (07): "The reader now gives 16 for version 1".
      known = between 257 264 v;
      -- "width byte for 261", and so for the one 3 above it
      width = eqb v 261 || eqb v 264;
      -- "for 260 again scales and codes", and so for the one 3 above it
      second = eqb v 260 || eqb v 263;
      -- "257, 258, none with keys"
      keys = leb 259 v;
      -- "1 and 257 ignore the working_dim field"
      working = leb 258 v;
      -- 02, Req 06: "with one year per live slot"
      years = leb 262 v;
    }

-- "scales; codes": of n slots, each scale a half, a block of codes being so many bytes
abbrev pub stage_size : (block n : ℕ) → ℕ
stage_size block n = n * 2 + n * block

module _ (f : Form) where
  -- "VECQ, version 16-bit, working_dim 16-bit .., dim 32, seed 64, live count 32; width byte for 261; scales"
  abbrev pub stages_at : ℕ
  stages_at = 24 + bit f.width

  -- "key entry count 32, then slot 32, key 64 each"
  abbrev pub table_size : (k : ℕ) → ℕ
  table_size k = cond f.keys (4 + k * 12) 0

  -- 02, Req 06: "one year per live slot", of 16 bits
  abbrev pub years_size : (n : ℕ) → ℕ
  years_size n = cond f.years (n * 2) 0

  -- a block of codes being so many bytes, n slots and k key entries
  module _ (block n : ℕ) where
    abbrev pub second_at : ℕ
    second_at = stages_at + stage_size block n

    abbrev pub keys_at : ℕ
    keys_at = second_at + cond f.second (stage_size block n) 0

    abbrev pub years_at : (k : ℕ) → ℕ
    years_at k = keys_at + table_size k

    unfoldable pub end_at : (k : ℕ) → ℕ
    end_at k = years_at k + years_size n
