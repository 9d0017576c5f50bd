use mathlib.Core.Path.{sym, ◌∙◌}
use mathlib.Core.Bool.{false≢true}
use mathlib.Core.List.{List}
use Prim.Native.Nat.{ℕ, ◌+◌, ◌*◌, ◌≤◌, ◌<◌}
use native.Mathlib.Omega.{arith}
use lib.ListN.{length}
use lib.Seq.{length-take-le}
use borrow.Author.Tests.{eqb-true, eq-eqb}
use Rattle.positions.proofs.Decides.{decided}
use Rattle.marks.specs.Live.{marks_in}
use Rattle.marks.proofs.Words.{length-marks}
use Rattle.fit.proofs.Marks.{lent-low, live-clear, live-front, keyed-front}
use Rattle.fit.proofs.marks_fit.Goals as goal
use Rattle.fit.proofs.marks_fit.Goals.{then-none_from, else-none_from}

-- the words that hold the first n slots
enough : (ws : List ℕ) (n : ℕ) {k : ℕ} → n ≤ length (marks_in ws) → k * 64 < n + 64 → k ≤ length ws
enough ws n l e = omega (arith, e, l, length-marks ws)

pub slice_bounds-live_total-end : goal.slice_bounds-live_total-end
slice_bounds-live_total-end c = sym (length-take-le _ c.args.alive.now (enough c.args.alive.now c.args.n c.requires.2 (omega (arith, c.div_ceil.ensures))))

pub returns-then-keyed_fit : goal.returns-then-keyed_fit
returns-then-keyed_fit c = elim c.if-none_from.branch [
  | then-none_from w ↦
      let keyed = c.args.keyed.now in
      let alive = c.args.alive.now in
      let n = c.args.n in
      let k = c.div_ceil.result in
      let slots = keyed-front keyed (marks_in alive) n c.requires.1 w.keyed_fit.ensures in
      let clear = c.none_from.ensures.yes w.if-none_from.true in
      let e = c.live_total.ensures ∙ live-front alive k (enough alive n c.requires.2 (omega (arith, c.div_ceil.ensures)))
      ∙ live-clear (marks_in alive) n (k * 64) clear (omega (arith, c.div_ceil.ensures)) in
      decided _
      (λ t. record { low = λ i l. lent-low alive i; clear = clear; slot = slots.yes (sym w.value-is ∙ c.if-keyed_fit.true); count = sym (eqb-true _ _ t) ∙ e })
      (λ f. eq-eqb _ _ (e ∙ sym f.count))
  | else-none_from w ↦ absurd (false≢true (sym w.if-none_from.false ∙ sym w.value-is ∙ c.if-keyed_fit.true))
]
