use mathlib.Core.Path.{sym, ap, ◌∙◌}
use mathlib.Core.List.{List}
use Prim.Native.Nat.{◌*◌}
use lib.Seq.{sets}
use lib.Ieee.{Float}
use Rattle.scan.specs.Groups.{byte_lanes}
use Rattle.scan.proofs.Sizes.{byte-groups}
use Rattle.scan.proofs.Tabled.sum_slot.Goals as goal

pub byte_lanes-requires : goal.byte_lanes-requires
byte_lanes-requires c =
    let t = c.args.self.now in rw (c.block.ensures.size) (byte-groups _ _ _ c.requires.width t.groups t.block)

pub returns : goal.returns
returns c =
    let t = c.args.self.now in
    rw (sym (c.requires.lives.each _ c.requires.arrays.1) ∙ sym c.is_set.ensures ∙ c.if-not-is_set.false)
    (c.put.ensures
    ∙ ap (λ (a : List Float). sets c.args.sums.now (c.args.k * 8) a)
    (c.byte_lanes.ensures ∙ ap (byte_lanes t.evens.now t.odds.now t.pairs.now) c.block.ensures.codes))
