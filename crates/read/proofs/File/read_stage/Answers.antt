use Rattle.std.proofs.Common.{sym, ap, ◌∙◌, List, ℕ, ◌*◌, take}
use Rattle.lists.specs.Lists.{over}
use Rattle.read.proofs.Stages.{stage-scales, stage-blocks}
use Rattle.read.proofs.File.read_stage.Goals as goal

pub returns-clause-codes_after : goal.returns-clause-codes_after
returns-clause-codes_after c =
    let a = c.args in
    c.read_codes.ensures
    ∙ ap (λ (ys : List ℕ). over ys a.codes.now)
    (ap (take (a.n * a.self.now.block)) c.after-blocks.ensures ∙ sym (stage-blocks _ _ _ c.requires.bytes_fit))

pub returns-clause-scales_after : goal.returns-clause-scales_after
returns-clause-scales_after c =
    let a = c.args in
    c.read_scales.ensures ∙ ap (λ (ys : List ℕ). over ys a.scales.now) (sym (stage-scales a.self.now.block a.n a.bytes.now))
