use Rattle.std.proofs.Common.{◌*◌, ◌/◌, ◌≤◌, length, take, IfSome, refl, subst, arith, length-append, length-drop, length-take}
use Rattle.conversion.proofs.Passing.{narrowed_none, narrowed_then, some-passed}
use Rattle.conversion.proofs.pass_scales.Goals as goal

pub loop-done-init : goal.loop-done-init
loop-done-init g c = record { sizes = (refl, refl); within = omega arith; few = omega arith; bytes = narrowed_none _ _ }

pub loop-done-preserved : goal.loop-done-preserved
loop-done-preserved g c =
    let scales = length-take (c.min-most.result * 4) c.loop-done.scales in
    let halves = length-take (c.min-most.result * 2) c.loop-done.halves in
    record {
      sizes = (simp (length-append, length-drop) (omega arith), simp (length-append, length-drop) (omega arith));
      within = omega arith;
      few = omega (arith, subst (λ o. IfSome o (λ m. m ≤ length (take (c.min-most.result * 4) c.loop-done.scales) / 4)) c.in-Some.is c.in_ok-more.ensures.few);
      bytes = narrowed_then _ _ _ _ _ _ _ _ _ _ _ (omega arith) c.loop-done.invariant.bytes (some-passed _ _ _ _ _ _ _ c.in-Some.is c.in_ok-more.ensures.bytes);
    }
