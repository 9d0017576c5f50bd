-- The first 24 bytes of a file tell what its head does.
use mathlib.Core.Path.{◌≡◌, refl, sym, ◌∙◌}
use mathlib.Core.Bool.{Bool, not, ◌||◌}
use mathlib.Core.List.{List, [], ◌∷◌}
use Prim.Native.Nat.{ℕ, ◌≤◌}
use native.Mathlib.Omega.{arith}
use borrow.Author.Tests.{le-ltb}
use lib.Dec.{ltb, eqb}
use lib.ListN.{length, take}
use lib.Seq.{length-take-le}
use Rattle.index.specs.File.{magic}
use Rattle.index.specs.Step.{first_of, when}
use Rattle.index.specs.Read.{little_endian, version_in, dim_in, count_in}
use Rattle.index.proofs.Read.{number_cut}
use Rattle.conversion.specs.Old.{old_head_fault}

-- the refusal by the fields
abbrev fault_by : (short : Bool) → (name version dim count : ℕ) → ℕ
fault_by short name version dim count =
    first_of
    (when short 14
    ∷ when (not (eqb name (little_endian 4 magic))) 15
    ∷ when (not (eqb version 1)) 16
    ∷ when (ltb 4096 dim || ltb 65536 count) 20
    ∷ [])

by-fields : (file : List ℕ) → old_head_fault file ≡ fault_by (ltb (length file) 24) (little_endian 4 file) (version_in file) (dim_in file) (count_in file)
unfolding old_head_fault
by-fields file = refl

module _ (file : List ℕ) (long : 24 ≤ length file) where
  pub dim-cut : dim_in (take 24 file) ≡ dim_in file
  dim-cut = number_cut 4 8 24 file (omega arith)

  pub count-cut : count_in (take 24 file) ≡ count_in file
  count-cut = number_cut 4 20 24 file (omega arith)

  pub fault-cut : old_head_fault (take 24 file) ≡ old_head_fault file
  fault-cut =
      let whole : length (take 24 file) ≡ 24 = length-take-le 24 file long in
      let short : ltb (length (take 24 file)) 24 ≡ ltb (length file) 24 = le-ltb (length (take 24 file)) 24 (omega (arith, whole)) ∙ sym (le-ltb (length file) 24 long) in
      let name = number_cut 4 0 24 file (omega arith) in
      let version = number_cut 2 4 24 file (omega arith) in
      by-fields (take 24 file) ∙ (λ i. fault_by (short i) (name i) (version i) (dim-cut i) (count-cut i)) ∙ sym (by-fields file)
