use mathlib.Core.Path.{◌≡◌, sym, ap, ◌∙◌}
use mathlib.Core.List.{List}
use native.Mathlib.Omega.{arith}
use lib.Ieee.{Float, binary32, of_bits}
use lib.ListN.{length, length-replicate, replicate}
use Prim.Native.Nat.{ℕ}
use Rattle.lloyd.specs.Tables.{boundaries_of}
use Rattle.unit.specs.Brought.{query_of}
use Rattle.marks.specs.Live.{marks_in}
use Rattle.index.specs.State.{header_of}
use Rattle.unit.proofs.Rotatable.{rotatable-of}
use Rattle.nearest.proofs.Distance.{own-table, few-own, tops-low, slots-measured}
use Rattle.nearest.proofs.distances.live_distances.Goals as goal

pub write_tops-requires : goal.write_tops-requires
write_tops-requires c =
    let table = own-table c.boundaries-boundaries.ensures in
    let room = (rotatable-of _ _ _ c.requires.2).room in (
      few-own table,
      omega (arith, room, c.padded_dim-lanes.ensures, c.prepare-rnorm.auto, length-replicate {A = Float}),
      omega (arith, room, c.padded_dim-lanes.ensures),
    )

pub write_distances-requires : goal.write_distances-requires
write_distances-requires c =
    let table = own-table c.boundaries-boundaries.ensures in
    let room = (rotatable-of _ _ _ c.requires.2).room in (
      omega (arith, room, c.padded_dim-lanes.ensures),
      omega (arith, room, c.padded_dim-lanes.ensures, c.write_tops.auto, length-replicate {A = ℕ}),
      tops-low _ (few-own table) c.prepare-rnorm.new.out _ _ _ _ c.write_tops.ensures,
      c.requires.0,
    )

pub returns : goal.returns
returns c =
    let table = own-table c.boundaries-boundaries.ensures in
    let zeros : List Float = replicate 4096 (of_bits binary32 0) in
    let room : length zeros ≡ 4096 = length-replicate 4096 (of_bits binary32 0) in
    c.write_distances.ensures ∙
    slots-measured (header_of c.args.index) (query_of c.args.query.now) zeros _ _ (rw room c.requires.2) c.prepare-rnorm.ensures _ (table ∙ ap boundaries_of (sym c.requires.1)) _
    c.padded_dim-lanes.ensures _ _ c.write_tops.ensures c.args.codes.now (marks_in c.args.alive.now) _ c.requires.1 c.bytes_per_vector-size.ensures c.args.index.n c.args.distances.now
