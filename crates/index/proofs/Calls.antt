-- How a call on a record and arrays comes from the step of their value: what the proof of each call begins with.
use mathlib.Core.Path.{◌≡◌, ap, ◌∙◌}
use mathlib.Core.Bool.{true, false}
use Rattle.index.specs.declared.Index.{Index}
use Rattle.index.specs.Arrays.{Arrays}
use Rattle.index.specs.State.{header_of, capacity, state_of}
use Rattle.index.specs.Fit.{fit}
use Rattle.index.specs.Step.{Op, Answer, refused, Outcome, answered, step}
use Rattle.index.specs.Call.{laid_over, call}
use Rattle.index.specs.Answers.{result_of}
use Rattle.index.proofs.Fits.{overlay-self, record-self}

module _ (x : Index) (a : Arrays) (op : Op) where
  pub call-misfit : fit x a ≡ false → call x a op ≡ result_of x a (refused 13)
  unfolding call
  call-misfit e = rw e

  module _ (e : fit x a ≡ true) where
    abbrev pub outcome : Outcome
    outcome = step (capacity (header_of x) a) (state_of x a) op

    pub call_fits : call x a op ≡ laid_over a outcome
    unfolding call
    call_fits = rw e

    -- a call that leaves the value as it is
    pub call-answered : (r : Answer) → outcome ≡ answered (state_of x a) r → call x a op ≡ result_of x a r
    call-answered r f = call_fits ∙ ap (laid_over a) f ∙ (λ i. record { index = record-self x a e i; arrays = overlay-self x a e i; answer = r })
