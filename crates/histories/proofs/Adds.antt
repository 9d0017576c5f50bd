-- An accepted add answers the arrival that stores its vector.
use mathlib.Core.Path.{◌≡◌, refl, sym, ap, ◌∙◌, subst}
use mathlib.Core.Bool.{true, not}
use mathlib.Core.List.{[], ◌∷◌}
use mathlib.Core.Option.{Option, none, some}
use Prim.Native.Nat.{ℕ}
use lib.Dec.{T}
use Rattle.encode.specs.Coded.{fault}
use Rattle.index.specs.Step.{Item, Answer, slot, first_of, when}
use Rattle.index.specs.History.{HistoryOp, add, add_keyed, add_multi, relabel, remove, compact, score, search, search_keyed, key_of, contains, slot_of, file_length, write}
use Rattle.histories.specs.Histories.{LiveArrival, taken, is_append, names_live, first_with, accepted, Run, AnswersAdds}
use Rattle.histories.proofs.Reading.{passed}
use Rattle.histories.proofs.Held.{found, first-taken}
use Rattle.histories.proofs.Machine.{appending, appending_or_over, answer_of}
use Rattle.histories.proofs.Runs.{Good, full, answer-machine, accepts-machine}

module _ (r : Run) (g : Good r) where
  appended-as : (v : Item) → accepted (appending (full r) r.told v) ≡ true → appending (full r) r.told v ≡ slot r.told.next
  appended-as v e = passed (first_of (fault r.told.header v.vector ∷ when (full r) 8 ∷ [])) (slot r.told.next) e

  -- of a key that no live arrival has
  keyed-appends : (j : ℕ) (v : Item) (present : ℕ) (o : Option LiveArrival) → found o ≡ taken j r.told.living → not (taken j r.told.living) ≡ true →
      accepted (appending_or_over (full r) r.told v present o) ≡ true → appending_or_over (full r) r.told v present o ≡ slot r.told.next
  keyed-appends j v present none f n e = appended-as v e
  keyed-appends j v present (some l) f n e = absurd (subst T (sym (ap not f ∙ n)) tt)

  abbrev answered : HistoryOp → Answer
  answered op = answer_of (full r) r.told op

  machine-appends : (op : HistoryOp) → is_append op r.told.living ≡ true → accepted (answered op) ≡ true → answered op ≡ slot r.told.next
  unfolding answer_of
  machine-appends (add v y) a e = appended-as v e
  machine-appends (add_keyed j v y present) a e = keyed-appends j v present (first_with j r.told.living) (first-taken j r.told.living) a e
  machine-appends (add_multi j v y) a e = appended-as v e
  machine-appends (relabel j k) a e = absurd (subst T (sym a) tt)
  machine-appends (remove j present) a e = absurd (subst T (sym a) tt)
  machine-appends compact a e = absurd (subst T (sym a) tt)
  machine-appends (score b q) a e = absurd (subst T (sym a) tt)
  machine-appends (search q k places) a e = absurd (subst T (sym a) tt)
  machine-appends (search_keyed q k places) a e = absurd (subst T (sym a) tt)
  machine-appends (key_of b) a e = absurd (subst T (sym a) tt)
  machine-appends (contains j) a e = absurd (subst T (sym a) tt)
  machine-appends (slot_of j i) a e = absurd (subst T (sym a) tt)
  machine-appends file_length a e = absurd (subst T (sym a) tt)
  machine-appends (write places) a e = absurd (subst T (sym a) tt)

pub good-adds : (r : Run) → Good r → AnswersAdds r
unfolding answer_of
good-adds r g =
    record {
      appended = λ op a ok. let n = names op a in answer-machine r g op n ∙ ap some (machine-appends r g op a (sym (accepts-machine r g op n) ∙ ok));
      overwritten = λ j v y present l e.
          answer-machine r g (add_keyed j v y present) refl ∙ ap (λ (o : Option LiveArrival). some (appending_or_over (full r) r.told v present o)) e;
    }
  where
    -- an append names no slot
    names : (op : HistoryOp) → is_append op r.told.living ≡ true → names_live r.told.living op ≡ true
    names (add v y) a = refl
    names (add_keyed j v y present) a = refl
    names (add_multi j v y) a = refl
    names (relabel j k) a = refl
    names (remove j present) a = refl
    names compact a = refl
    names (score b q) a = absurd (subst T (sym a) tt)
    names (search q k places) a = refl
    names (search_keyed q k places) a = refl
    names (key_of b) a = absurd (subst T (sym a) tt)
    names (contains j) a = refl
    names (slot_of j i) a = refl
    names file_length a = refl
    names (write places) a = refl
