use mathlib.Core.Path.{◌≡◌, sym, ap, ◌∙◌}
use Rattle.std.proofs.Common.{rules}
use lib.ListN.{length}
use Rattle.codes.specs.Packing.{packed, spare}
use Rattle.codes.specs.Writing.{spare_after}
use Rattle.codes.proofs.Tests.{packable-of, written-yes, written-no}
use Rattle.packing.proofs.Spare.{spare-cleared}
use Rattle.packing.proofs.pack.Goals as goal
use Rattle.packing.proofs.pack.Goals.{then-fresh, else-fresh}

pub returns-then-not-is_packable : goal.returns-then-not-is_packable
returns-then-not-is_packable c = sym (written-no _ _ _ _ (sym c.is_packable.ensures ∙ c.if-not-is_packable.true))

pub put_codes-requires : goal.put_codes-requires
put_codes-requires c = rw c.if-fresh.auto.block (packable-of _ _ _ (sym c.is_packable.ensures ∙ c.if-not-is_packable.false))

pub returns : goal.returns
unfolding spare_after
returns c =
    let a = c.args in
    let ok = packable-of _ _ _ (sym c.is_packable.ensures ∙ c.if-not-is_packable.false) in
    let spares : spare a.bits (length a.codes.now) c.if-fresh.block ≡ spare_after a.fresh a.bits (length a.codes.now) a.block.now = elim c.if-fresh.branch [
      | then-fresh w ↦ rw (w.if-fresh.true, w.block-is, w.clear_last.ensures) (spare-cleared _ _ a.block.now (λ k. search rules) ok.size)
      | else-fresh w ↦ rw (w.if-fresh.false, w.block-is)
    ] in
    c.put_codes.ensures ∙ ap (packed a.bits a.codes.now) spares ∙ sym (written-yes _ _ ok)
