use mathlib.Core.Path.{◌≡◌, sym, ap, ◌∙◌}
use Prim.Native.Nat.{ℕ, ◌+◌}
use native.Mathlib.Nat.{add-zero}
use native.Mathlib.Omega.{arith}
use lib.ListN.{take, drop, get_or}
use Rattle.digits.specs.Digits.{number}
use Rattle.scan.proofs.Steps.{number-at}
use Rattle.scan.proofs.word.Goals.{then-this-eq5, else-this-eq5}
use Rattle.scan.proofs.word.Goals as goal

pub returns : goal.returns
returns g c =
    let block = c.args.block.now in
    let at = c.args.at in
    let bytes : ℕ → ℕ = λ n. number 256 (take n (drop at block)) in
    let first : get_or block (at + 0) 0 ≡ get_or block at 0 = ap (λ (i : ℕ). get_or block i 0) (add-zero at) in
    elim c.if-this-eq5.branch [
      | then-this-eq5 w ↦ omega (arith, c.from_le_bytes.ensures, w.sixth-is, first) ∙ sym (number-at block at 5 (omega arith)) ∙ ap bytes {x = 5} (omega arith)
      | else-this-eq5 w ↦ omega (arith, c.from_le_bytes.ensures, w.sixth-is, first) ∙ sym (number-at block at 6 (omega arith)) ∙ ap bytes {x = 6} (omega arith)
    ]
