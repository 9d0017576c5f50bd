-- What a version 1 file becomes: document 02, request 07.
use Rattle.std.specs.Prelude.{◌≡◌, List, [], ◌∷◌, ◌++◌, map, ℕ, ◌*◌, length, take, drop}
use Rattle.lists.specs.Lists.{joined, total}
use Rattle.lists.specs.Keep.{Each}
use Rattle.index.specs.File.{le_bytes, magic}
use Rattle.index.specs.Step.{first_of}
use Rattle.index.specs.Read.{count_in}
use Rattle.conversion.specs.Old.{old_block, old_stages, old_head_fault, old_body_fault}
use Rattle.conversion.specs.Scales.{halves_of, changes_in}

-- "a key count of 0"
abbrev pub no_keys : List ℕ
no_keys = le_bytes 4 0

module _ (file : List ℕ) where
  -- "the old reader's tests for version 1, any other being 16, in their order, 20 for dim and count alone"
  unfoldable pub conversion_refusal : ℕ
  conversion_refusal = first_of (old_head_fault file ∷ old_body_fault file ∷ [])

  -- ---- the parts of an accepted file

  abbrev pub scale_bytes : List ℕ
  scale_bytes = take (count_in file * 4) (old_stages file)

  abbrev pub code_bytes : List ℕ
  code_bytes = take (count_in file * old_block file) (drop (count_in file * 4) (old_stages file))

  -- "how many scales changed value"
  unfoldable pub changed_scales : ℕ
  changed_scales = changes_in scale_bytes

  -- ---- the file written

  -- "writes version 259: working_dim field 0": dim, seed and count as they were
  abbrev pub new_head : List ℕ
  new_head = magic ++ le_bytes 2 259 ++ le_bytes 2 0 ++ take 16 (drop 8 file)

  -- "scales rounded to halves, the same codes"; a tail is dropped
  unfoldable pub converted : List ℕ
  converted = new_head ++ halves_of scale_bytes ++ code_bytes ++ no_keys

-- ---- in chunks

-- a chunk of scales has whole ones
abbrev pub Whole : (chunk : List ℕ) → Type 0
Whole c = (n : ℕ) × (length c ≡ n * 4)

-- However the scales and the codes are cut into chunks, the chunks one after the other make the converted file, and their changed scales its own.
pub record InChunks (file : List ℕ) (scales codes : List (List ℕ)) : Type 0 where
  pub bytes : new_head file ++ joined (map halves_of scales) ++ joined codes ++ no_keys ≡ converted file
  pub count : total (map changes_in scales) ≡ changed_scales file

abbrev pub ConvertsInChunks : Type 0
ConvertsInChunks =
    (file : List ℕ) (scales codes : List (List ℕ)) → Each Whole scales → joined scales ≡ scale_bytes file → joined codes ≡ code_bytes file →
    InChunks file scales codes
