use mathlib.Core.Path.{◌≡◌, sym, ◌∙◌}
use Prim.Native.Nat.{◌*◌, min}
use lib.ListN.{length, length-append}
use Rattle.std.proofs.Common.{inl, inr}
use Rattle.fit.proofs.Marks.{all-walked, words-walked, rest-is, later-is, word_more}
use Rattle.fit.proofs.keyed_fit.Goals as goal

pub loop-part-preserved : goal.loop-part-preserved
loop-part-preserved c =
    let keyed = c.args.keyed.now in
    let alive = c.args.alive.now in
    let i = length c.loop-part.yielded in
    let inv = c.loop-part.invariant in
    let steps = c.in-Some.ensures.steps in
    let parts = steps.0.1 in
    let e = sym inv.1 ∙ parts.0 in
    let f = sym inv.2 ∙ steps.1 in
    let size = rw (inv.0, inv.1) at parts.1 in
    let some = rw inv.1 at parts.2 in
    rw (length-append) (
      steps.0.0 ∙ inv.0,
      rest-is keyed alive i _ _ _ _ e f size some,
      later-is keyed alive i _ _ _ _ e f size some,
      word_more keyed alive i _ _ _ _ e f size some _ _ inv.3 c.word_fits-all.ensures,
    )

pub returns : goal.returns
returns c =
    let keyed = c.args.keyed.now in
    let alive = c.args.alive.now in
    let i = length c.loop-part.yielded in
    let inv = c.loop-part.invariant in
    let e : min (i * 64) (length keyed) ≡ length keyed = elim c.in-None.ensures.steps [
      | inl u ↦ all-walked keyed alive i (rw inv.1 at u.1.1.0)
      | inr u ↦ words-walked keyed alive i c.requires (rw inv.2 at u.1.0)
    ] in
    rw e at inv.3
