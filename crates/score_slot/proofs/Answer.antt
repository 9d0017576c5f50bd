-- The call `score` on a record and arrays that fit: refused by its tests one after the other, or else the slot's score, judged.
use mathlib.Core.Path.{◌≡◌, refl, sym, ap, ◌∙◌}
use mathlib.Core.Bool.{true}
use mathlib.Core.List.{[], ◌∷◌}
use mathlib.Core.Option.{Option, none, some}
use Prim.Native.Nat.{ℕ, ◌≤◌, ◌<◌}
use lib.ListN.{get_elem?}
use lib.Ieee.{is_nan}
use Rattle.encode.specs.Coded.{fault}
use Rattle.score.specs.declared.Scored.{Scored}
use Rattle.score.specs.Score.{judged}
use Rattle.index.specs.declared.Index.{Index}
use Rattle.index.specs.Arrays.{Arrays}
use Rattle.index.specs.State.{Slot, header_of, slot_at, state_of}
use Rattle.index.specs.Codec.{score_of}
use Rattle.index.specs.Fit.{fit}
use Rattle.index.specs.Step.{Query, Answer, refused, done, score_is, first_of, when, unless, answered, score_answer, score, step}
use Rattle.index.specs.Call.{call}
use Rattle.index.specs.Answers.{result_of, scored}
use Rattle.index.proofs.Kept.{first-refused}
use Rattle.index.proofs.Calls.{call-answered}
use Rattle.index.proofs.Passed.{score-judged}
use Rattle.held.proofs.Value.{slot-in, slot-past}

module _ (x : Index) (a : Arrays) (e : fit x a ≡ true) (i : ℕ) (q : Query) where
  by_answer : (o : Option Slot) → get_elem? (state_of x a).slots i ≡ o → (r : Answer) → r ≡ score_answer (header_of x) q o → result_of x a r ≡ call x a (score i q)
  unfolding step state_of
  by_answer o f r g =
      sym (call-answered x a (score i q) e r (ap (λ (p : Option Slot). answered (state_of x a) (score_answer (header_of x) q p)) f ∙ ap (answered (state_of x a)) (sym g)))

  -- n is the number of the query's tests
  module _ (n : ℕ) (is : n ≡ fault (header_of x) q.vector) where
    pub score-refused : (n ≡ 0 → ⊥) → result_of x a (refused n) ≡ call x a (score i q)
    unfolding score_answer
    score-refused given = by_answer (get_elem? (state_of x a).slots i) refl (refused n) (go (get_elem? (state_of x a).slots i))
      where
        go : (o : Option Slot) → refused n ≡ score_answer (header_of x) q o
        go none = sym (first-refused n 9 done given) ∙ ap (λ (m : ℕ). unless (first_of (m ∷ 9 ∷ [])) done) is
        go (some t) =
            let y = score_of (header_of x) q t.code in
            sym (first-refused n (when (is_nan y) 12) (score_is y) given) ∙ ap (λ (m : ℕ). unless (first_of (m ∷ when (is_nan y) 12 ∷ [])) (score_is y)) is

    module _ (accepted : n ≡ 0) where
      none_found : 0 ≡ fault (header_of x) q.vector
      none_found = sym accepted ∙ is

      pub score-past : x.n ≤ i → result_of x a (refused 9) ≡ call x a (score i q)
      unfolding score_answer first_of
      score-past l = by_answer none (slot-past x a e i l) (refused 9) (ap (λ (m : ℕ). unless (first_of (m ∷ 9 ∷ [])) done) none_found)

      pub score-in : i < x.n → (r : Scored) → r ≡ judged (score_of (header_of x) q (slot_at (header_of x) a i).code) → result_of x a (scored r) ≡ call x a (score i q)
      score-in l r f = by_answer _ (slot-in x a e i l) (scored r) (ap scored f ∙ sym (score-judged (header_of x) q (sym none_found) (slot_at (header_of x) a i)))
