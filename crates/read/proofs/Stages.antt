-- A stage in the bytes of a file.
use mathlib.Core.Path.{◌≡◌, sym, ap, ◌∙◌}
use mathlib.Core.List.{List}
use Prim.Native.Nat.{ℕ, ◌*◌, ◌≤◌}
use native.Mathlib.Omega.{arith}
use lib.ListN.{length, get_or, take, drop, length-drop}
use lib.Seq.{length-take-le, get_or-take}
use Rattle.lists.specs.Lists.{tab, joined}
use Rattle.lists.proofs.Laws.{tab-ext}
use Rattle.lists.proofs.Entries.{entries}
use Rattle.lists.proofs.Front.{map-tab}
use Rattle.half.specs.Half.{widened}
use Rattle.codes.specs.Stage.{Stage}
use Rattle.index.specs.State.{scales_of, blocks_of}
use Rattle.index.specs.Form.{stage_size}
use Rattle.index.specs.Read.{little_endian, stage_from}
use Rattle.index.proofs.Blocks.{joined-blocks}

pub tab-take : (n : ℕ) (xs : List ℕ) → n ≤ length xs → tab (λ i. get_or xs i 0) n ≡ take n xs
tab-take n xs l = tab-ext _ _ n (λ i h. sym (get_or-take n xs i 0 h)) ∙ sym (entries (take n xs) 0 n (length-take-le n xs l))

module _ (w n : ℕ) (bytes : List ℕ) where
  pub stage-scales : scales_of (tab (stage_from w n bytes) n) ≡ tab (λ i. widened (little_endian 2 (drop (i * 2) bytes))) n
  unfolding stage_from
  stage-scales = map-tab (λ (g : Stage). g.scale) (stage_from w n bytes) n

  -- the bytes that the blocks take are there
  pub blocks-there : stage_size w n ≤ length bytes → n * w ≤ length (drop (n * 2) bytes)
  blocks-there l = rw (length-drop (n * 2) bytes) (omega (arith, l))

  pub stage-blocks : stage_size w n ≤ length bytes → blocks_of (tab (stage_from w n bytes) n) ≡ take (n * w) (drop (n * 2) bytes)
  unfolding stage_from
  stage-blocks l =
      ap joined (map-tab (λ (g : Stage). g.block) (stage_from w n bytes) n)
      ∙ joined-blocks w n (drop (n * 2) bytes) (blocks-there l)
