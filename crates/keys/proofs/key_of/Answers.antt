use Rattle.std.proofs.Common.{rules, ◌≡◌, Err}
use mathlib.Core.Path.{sym, ap, ◌∙◌}
use mathlib.Core.Bool.{Bool, cond}
use mathlib.Core.Option.{Option, none, some}
use Prim.Native.Nat.{ℕ}
use lib.ListN.{get_or}
use borrow.Author.Tests.{le-ltb}
use Rattle.index.specs.Step.{key_answer}
use Rattle.slot_keys.specs.Has.{key_at}
use Rattle.held.proofs.Value.{key_in, slot-past}
use Rattle.keys.proofs.Questions.{misfits, key-if}
use Rattle.keys.proofs.key_of.Goals as goal
use Rattle.keys.proofs.key_of.Goals.{then-slot-index, else-slot-index}

pub returns-in_err-check : goal.returns-in_err-check
returns-in_err-check c =
    let k : c.from_residual.result ≡ Err c.in_err-check.field-0.0 = search rules in
    rw (k, c.in_err-check.ensures.1) (misfits _ _ c.in_err-check.ensures.0 _)

pub returns : goal.returns
unfolding key_at
returns c =
    let e = c.in_ok-check.ensures in
    let key : Bool → Option ℕ = λ b. cond b (some (get_or c.args.arrays.now.keys.now c.args.slot 0)) none in
    rw (c.then_some.ensures, c.key_word.ensures) (key-if _ _ e _ _ _
    (elim c.if-slot-index.branch [
      | then-slot-index w ↦ key_in _ _ e _ w.if-slot-index.true ∙ ap key (sym (w.keyed-is ∙ w.is_keyed-keyed.ensures))
      | else-slot-index w ↦ ap key_answer (slot-past _ _ e _ w.if-slot-index.false) ∙ ap key (sym (w.keyed-is ∙ le-ltb _ _ w.if-slot-index.false))
    ]))
