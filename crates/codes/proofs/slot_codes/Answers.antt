use mathlib.Core.Path.{◌≡◌, sym, ◌∙◌}
use mathlib.Core.Bool.{false}
use Prim.Native.Nat.{◌+◌, ◌*◌, ◌≤◌}
use native.Mathlib.Nat.{add-sub_cancel_left}
use borrow.Author.Tests.{leb-true}
use lib.Dec.{leb}
use lib.ListN.{length}
use Rattle.codes.specs.Slots.{block_at}
use Rattle.codes.proofs.Slots.{block-there}
use Rattle.codes.proofs.slot_codes.Goals as goal

pub returns-then-not-has_block : goal.returns-then-not-has_block
unfolding block_at
returns-then-not-has_block c =
    let gone : let a = c.args in leb (a.slot * a.bytes + a.bytes) (length a.codes.now) ≡ false = sym c.has_block.ensures ∙ c.if-not-has_block.true in
    rw (gone)

pub returns : goal.returns
returns c =
    let whole : let a = c.args in a.slot * a.bytes + a.bytes ≤ length a.codes.now = leb-true _ _ (sym c.has_block.ensures ∙ c.if-not-has_block.false) in
    let a = c.args in
    rw (add-sub_cancel_left (a.slot * a.bytes) a.bytes) (sym (block-there a.bytes a.slot a.codes.now (whole)))
