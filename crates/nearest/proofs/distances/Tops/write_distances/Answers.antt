use mathlib.Core.Path.{◌≡◌, ◌∙◌}
use Prim.Native.Nat.{ℕ, ◌+◌, ◌-◌, ◌*◌}
use native.Mathlib.Omega.{arith}
use lib.ListN.{length, take, drop, length-drop}
use lib.Seq.{length-take-le}
use Rattle.marks.specs.Live.{marks_in}
use Rattle.nearest.proofs.Groups.{groups-none, groups-more, groups-all, group-measured}
use Rattle.nearest.proofs.distances.Tops.write_distances.Goals as goal

pub loop-group-init : goal.loop-group-init
loop-group-init c = groups-none _ _ _

pub loop-group-preserved : goal.loop-group-preserved
loop-group-preserved c =
    let a = c.args in
    let at = c.loop-group in
    let first : ℕ = at.group * 64 in
    let many : ℕ = c.min-many.result in
    let part : length (take (first + many - first) (drop first at.distances)) ≡ many = length-take-le _ (drop first at.distances) (rw (length-drop first at.distances) (omega arith)) ∙ omega arith in
    groups-more _ _ _ c.requires at.group many (first + many - first) at.distances _ at.invariant (omega arith) (λ l. omega arith) (omega arith)
    (c.write_group.ensures
    ∙ group-measured a.codes.now (marks_in a.alive.now) a.size a.self.now.all.now a.self.now.lanes first _ many _ c.word_at-live.ensures (omega arith) part)

pub returns : goal.returns
returns c = groups-all _ _ _ c.requires c.loop-group.invariant (omega arith)
