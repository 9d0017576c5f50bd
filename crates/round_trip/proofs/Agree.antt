-- Two accepted readings of the same bytes agree, whatever the arrays held: the record handed back and the value read.
use mathlib.Core.Path.{◌≡◌, sym, ◌∙◌}
use mathlib.Core.List.{List}
use Prim.Native.Nat.{ℕ}
use Rattle.index.specs.declared.Index.{Index}
use Rattle.index.specs.Verdict.{granted}
use Rattle.index.specs.Arrays.{Arrays}
use Rattle.index.specs.State.{state_of}
use Rattle.index.specs.Read.{read_into}
use Rattle.index.proofs.Read.{read-accepted, read-value}

module _ (a b : Arrays) (file : List ℕ) (x y : Index) (e : (read_into a file).answer ≡ granted x) (f : (read_into b file).answer ≡ granted y) where
  pub same-record : x ≡ y
  same-record = (read-accepted a file x e).record_is ∙ sym (read-accepted b file y f).record_is

  pub same-value : state_of x (read_into a file).arrays ≡ state_of y (read_into b file).arrays
  same-value = read-value a file x e ∙ sym (read-value b file y f)
