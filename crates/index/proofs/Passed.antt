-- What an accepted search says: a list is no refusal, and query and scored slots have passed the tests.
use mathlib.Core.Path.{◌≡◌, refl, ◌∙◌}
use mathlib.Core.Bool.{Bool, true, false, cond}
use mathlib.Core.List.{List, [], ◌∷◌}
use mathlib.Core.Option.{some}
use Prim.Native.Nat.{ℕ, zero, suc}
use native.Mathlib.Omega.{arith}
use lib.Ieee.{Float, is_nan}
use Rattle.lists.specs.Keep.{Each, any}
use Rattle.lists.proofs.Members.{any_none}
use Rattle.score.specs.declared.Scored.TheVariants as Scored
use Rattle.score.specs.Score.{judged}
use Rattle.encode.specs.declared.Header.{Header}
use Rattle.encode.specs.Coded.{fault}
use Rattle.index.specs.State.{Slot}
use Rattle.index.specs.Codec.{score_of}
use Rattle.index.specs.Step.{Query, score_is, hits, key_hits, first_of, when, unless, Hit, query_refusal, score_answer}
use Rattle.index.specs.Answers.{scored}
use Rattle.index.proofs.Kept.{first-none, when-none}

pub unless-hits : (n : ℕ) (ys lines : List (ℕ × Float)) → unless n (hits ys) ≡ hits lines → (n ≡ 0) × (ys ≡ lines)
unless-hits zero ys lines e = (refl, cc)
unless-hits (suc n) ys lines e = absurd (let z : ◌≡◌ {A = ℕ} 0 1 = cc in omega arith)

pub unless-keys : (n : ℕ) (ys lines : List (ℕ × Float)) → unless n (key_hits ys) ≡ key_hits lines → (n ≡ 0) × (ys ≡ lines)
unless-keys zero ys lines e = (refl, cc)
unless-keys (suc n) ys lines e = absurd (let z : ◌≡◌ {A = ℕ} 0 1 = cc in omega arith)

-- of a query that is not turned down, `score` gives a slot's score, judged
pub score-judged : (h : Header) (q : Query) → fault h q.vector ≡ 0 → (s : Slot) → score_answer h q (some s) ≡ scored (judged (score_of h q s.code))
unfolding score_answer first_of judged
score-judged h q e s = rw e (go (is_nan (score_of h q s.code)))
  where
    go : (b : Bool) → unless (first_of (0 ∷ when b 12 ∷ [])) (score_is (score_of h q s.code)) ≡ scored (cond b (Scored.Refused 12) (Scored.Score (score_of h q s.code)))
    go true = refl
    go false = refl

module _ (h : Header) (q : Query) (xs : List Hit) (passed : query_refusal h q xs ≡ 0) where
  no-fault : fault h q.vector ≡ 0
  unfolding query_refusal
  no-fault = (first-none (fault h q.vector) _ passed).0

  pub no_nan : Each (λ x. is_nan x.score ≡ false) xs
  unfolding query_refusal
  no_nan =
      any_none (λ x. is_nan x.score) xs
      (when-none (any (λ (x : Hit). is_nan x.score) xs) 11
      (first-none (when (any (λ (x : Hit). is_nan x.score) xs) 12) [] (first-none (fault h q.vector) _ passed).1).0)

  -- the call `score` gives the score of a slot, where it is no NaN
  pub scored-as : (s : Slot) → is_nan (score_of h q s.code) ≡ false → score_answer h q (some s) ≡ score_is (score_of h q s.code)
  unfolding judged
  scored-as s f = score-judged h q no-fault s ∙ rw f
