-- A call on the record and the lent arrays: what every contract and the theorem on histories cite.
use Rattle.std.specs.Prelude.{cond}
use Rattle.index.specs.declared.Index.{Index}
use Rattle.index.specs.Arrays.{Arrays, unmarked}
use Rattle.index.specs.State.{header_of, capacity, state_of, record_of, overlay}
use Rattle.index.specs.Fit.{misfit}
use Rattle.index.specs.Step.{Op, Answer, refused, Outcome, step}

-- the record and the arrays after a call, and its answer
pub record Result : Type 0 where
  pub index : Index
  pub arrays : Arrays
  pub answer : Answer

-- 02, Req 02: "Every accepted call, compaction too, leaves 0 in all bits at or above the slots in use", so slots are laid over arrays in which none is marked as live.
abbrev pub laid_over : Arrays → Outcome → Result
laid_over a o = record { index = record_of o.state; arrays = overlay (unmarked a) o.state.slots; answer = o.answer }

-- 01: 13 "comes first". Else the call is that of the value which the record and the arrays stand for.
unfoldable pub call : Index → Arrays → Op → Result
call x a op =
    cond (misfit x a) (record { index = x; arrays = a; answer = refused 13 })
    (laid_over a (step (capacity (header_of x) a) (state_of x a) op))
