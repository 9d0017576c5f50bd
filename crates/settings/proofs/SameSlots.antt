-- A call that leaves the slots as they are, and may change the header and the cascade's mark.
use mathlib.Core.Path.{◌≡◌, ap, ◌∙◌}
use mathlib.Core.Bool.{Bool, true}
use mathlib.Core.List.{[]}
use lib.ListN.{length}
use Rattle.lists.specs.Lists.{tab}
use Rattle.lists.proofs.Laws.{length-tab}
use Rattle.encode.specs.declared.Header.{Header}
use Rattle.index.specs.declared.Index.{Index}
use Rattle.index.specs.Arrays.{Arrays}
use Rattle.index.specs.State.{header_of, record_with, slot_at, state_of, record_of}
use Rattle.index.specs.Fit.{fit}
use Rattle.index.specs.Step.{Op, Answer}
use Rattle.index.specs.Call.{laid_over, call}
use Rattle.index.specs.Answers.{result_of}
use Rattle.index.proofs.Fits.{overlay-self, record-self}
use Rattle.index.proofs.Calls.{outcome, call_fits}

abbrev pub with_header : Index → Header → (cascade : Bool) → Index
with_header x h on = record_with h x.n x.live on

module _ (x : Index) (a : Arrays) where
  pub call-same-slots : (op : Op) (e : fit x a ≡ true) (h : Header) (on : Bool) (r : Answer) →
      outcome x a op e ≡ record { state = record { header = h; cascade = on; slots = (state_of x a).slots }; answer = r } →
      call x a op ≡ result_of (with_header x h on) a r
  unfolding record_of
  call-same-slots op e h on r f =
      call_fits x a op e ∙ ap (laid_over a) f ∙ (λ i. record { index = with_header (record-self x a e i) h on; arrays = overlay-self x a e i; answer = r })

  -- as many slots as the record says
  pub slots_length : length (state_of x a).slots ≡ x.n
  unfolding state_of
  slots_length = length-tab (slot_at (header_of x) a) x.n

  pub slots-none : x.n ≡ 0 → (state_of x a).slots ≡ []
  unfolding state_of
  slots-none z = ap (tab (slot_at (header_of x) a)) z
