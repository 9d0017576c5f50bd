use native.Mathlib.Nat.{add-zero, add_assoc}
use Rattle.scan.specs.Pairs.{word_product}
use Rattle.scan.proofs.Tabled.wide_step.Goals as goal

pub returns : goal.returns
unfolding word_product
returns c =
    simp (
      add-zero,
      add_assoc,
      c.wide_lane-4.ensures,
      c.wide_lane-3.ensures,
      c.wide_lane-2.ensures,
      c.wide_lane.ensures,
      c.pair_place-d.ensures.0,
      c.pair_place-c.ensures.0,
      c.pair_place-b.ensures.0,
      c.pair_place-a.ensures.0,
    )
