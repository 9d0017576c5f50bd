use native.Mathlib.Omega.{arith}
use Rattle.scan.proofs.Kernels.{summing-none, summing-more, summing-all}
use Rattle.scan.proofs.Sizes.{base-of}
use Rattle.scan.proofs.Tabled.wide_lanes.Goals as goal

pub loop-group-init : goal.loop-group-init
loop-group-init g c = summing-none _ _ _ _ _

pub wide_step-next-requires : goal.wide_step-next-requires
wide_step-next-requires g c =
    let base = base-of g.row.W c.requires.1 in (base.some, base.most, omega arith)

pub wide_step-next2-requires : goal.wide_step-next2-requires
wide_step-next2-requires g c =
    let base = base-of g.row.W c.requires.1 in (base.some, base.most, omega arith)

pub loop-group-preserved : goal.loop-group-preserved
loop-group-preserved g c =
    summing-more _ _ _ _ _ _ (base-of g.row.W c.requires.1).is _ _ _ _ _ _ _ c.loop-group.invariant c.loop-group-test.true
    (λ k. (c.type_inv.one k).fits) (λ k. (c.type_inv.other k).fits)
    c.word.ensures c.word-in-loop-group.ensures c.wide_step-next.ensures c.wide_step-next2.ensures

pub returns-clause-one : goal.returns-clause-one
returns-clause-one g c =
    (summing-all _ _ _ _ _ (λ k. (c.type_inv.one k).fits) (λ k. (c.type_inv.other k).fits) c.args.self.now.groups
    _ _ _ c.loop-group.invariant c.loop-group-test.false).0

pub returns-clause-other : goal.returns-clause-other
returns-clause-other g c =
    (summing-all _ _ _ _ _ (λ k. (c.type_inv.one k).fits) (λ k. (c.type_inv.other k).fits) c.args.self.now.groups
    _ _ _ c.loop-group.invariant c.loop-group-test.false).1
