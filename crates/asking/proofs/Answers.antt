-- What a search answers: its tests in their order, and the list of hits in the lent places.
use Rattle.std.specs.Prelude.{Ok, Err}
use mathlib.Core.Path.{◌≡◌, refl, sym, ap, subst, ◌∙◌}
use mathlib.Core.Bool.{Bool, true, false}
use mathlib.Core.List.{List, [], ◌∷◌, ◌++◌, map, append-nil}
use Prim.Native.Nat.{ℕ, zero, suc, ◌≤◌}
use native.Mathlib.Omega.{arith}
use lib.ListN.{length}
use lib.Ieee.{Float, is_nan}
use borrow.Author.Tests.{le-leb, le-ltb}
use Rattle.lists.specs.Lists.{over}
use Rattle.encode.specs.declared.Header.{Header}
use Rattle.encode.specs.Coded.{fault}
use Rattle.index.specs.declared.Index.{Index}
use Rattle.index.specs.Verdict.{Verdict, granted, turned_down}
use Rattle.index.specs.Arrays.{Arrays}
use Rattle.index.specs.State.{header_of}
use Rattle.index.specs.Fit.{fit}
use Rattle.index.specs.Step.{Query, Op, Answer, hits, first_of, when, unless, hits_of, query_refusal}
use Rattle.lists.specs.Keep.{any}
use Rattle.index.specs.Call.{call}
use Rattle.index.specs.Answers.{result_of, how_many, found, LaterKept}
use Rattle.index.proofs.Determined.{pairs-there}
use Rattle.fit.proofs.Meaning.{meaning}
use Rattle.fit.proofs.Rooms.{enough}
use Rattle.score_slot.proofs.Query.{width-in, query-rotatable}
use Rattle.hits.specs.declared.Unlisted.TheVariants.{Nan}
use Rattle.hits.specs.Hits.{Listed, scored_slots, chosen, shown, list_answer, ready}
use Rattle.asking.proofs.Cells.{scores, cells, hits-nan}

-- what a search leaves: its answer by `tell`, which is `found` or `found_keyed`, and the later places of both slices
abbrev pub Leaves : Index → Arrays → Op → (tell : Verdict ℕ → List ℕ → List Float → Answer) → Verdict ℕ → (ns ms : List ℕ) → (ss ts : List Float) → Type 0
Leaves x a op tell r ns ms ss ts = (result_of x a (tell r ms ts) ≡ call x a op) × (LaterKept (how_many r) ns ms × LaterKept (how_many r) ss ts)

-- ---- refusals one after the other

-- tests that are taken together first
pub first-nested : (ms ns : List ℕ) → first_of (first_of ms ∷ ns) ≡ first_of (ms ++ ns)
unfolding first_of
first-nested [] ns = refl
first-nested (zero ∷ ms) ns = first-nested ms ns
first-nested (suc m ∷ ms) ns = refl

-- or last
pub first-last : (ms ns : List ℕ) → first_of (ms ++ (first_of ns ∷ [])) ≡ first_of (ms ++ ns)
unfolding first_of
first-last [] ns = first-nested ns [] ∙ ap first_of (append-nil ns)
first-last (zero ∷ ms) ns = first-last ms ns
first-last (suc m ∷ ms) ns = refl

-- a query's refusals: those before any score, then 12 over the marked slots
pub query-refusal : (h : Header) (a : Arrays) (q : Query) (marks : List ℕ) (n : ℕ) →
    query_refusal h q (hits_of h q (cells h a marks n)) ≡
    first_of (fault h q.vector ∷ when (any (λ e. is_nan e.1) (scored_slots (scores h a q) marks n)) 12 ∷ [])
unfolding query_refusal
query-refusal h a q marks n = λ j. first_of (fault h q.vector ∷ when (hits-nan h a q marks n j) 12 ∷ [])

-- ---- the list of hits can be made

pub is-ready : (x : Index) (a : Arrays) → fit x a ≡ true → (q : Query) → fault (header_of x) q.vector ≡ 0 →
    ready x.n x.bits x.working_dim (length q.vector) ≡ true
unfolding ready
is-ready x a e q f =
    let w = width-in x a e in
    rw (le-leb x.n 65536 (enough (header_of x) a x.n ((meaning x a).yes e).room).few, le-leb 4 x.bits w.0, le-leb x.bits 6 w.1)
    (query-rotatable x a e q f)

-- ---- and is what the call leaves

-- an answer that is no hits
abbrev pub Other : Listed → Type 0
Other (Ok m) = ⊥
Other (Err u) = Unit

-- or by what it is not
pub is-other : (r : Listed) → ((m : ℕ) → r ≡ Ok m → ⊥) → Other r
is-other (Ok m) h = absurd (h m refl)
is-other (Err u) h = tt

-- one more than the hits that are listed, 0 where none is
abbrev hits_in : Listed → ℕ
hits_in (Ok m) = suc m
hits_in (Err u) = 0

module _ (score : ℕ → Float) (marks : List ℕ) (n : ℕ) (can : Bool) (k places : ℕ) (yes : can ≡ true) where
  abbrev pub nan : Bool
  nan = any (λ e. is_nan e.1) (scored_slots score marks n)

  -- what it answers, by whether a score is NaN
  abbrev pub listed : Bool → Listed
  listed true = Err Nan
  listed false = Ok (length (chosen score marks n k))

  module _ (room : length (chosen score marks n k) ≤ places) where
    pub answer-is : (b : Bool) → nan ≡ b → list_answer score marks n can k places ≡ listed b
    unfolding list_answer
    answer-is true t = rw (yes, t)
    answer-is false t = rw (yes, t, le-ltb places (length (chosen score marks n k)) room)

    module _ (r : Listed) (is : r ≡ list_answer score marks n can k places) where
      pub some-hits : (m : ℕ) → r ≡ Ok m → (nan ≡ false) × (m ≡ length (chosen score marks n k))
      some-hits m e = go nan refl
        where
          go : (b : Bool) → nan ≡ b → (b ≡ false) × (m ≡ length (chosen score marks n k))
          go true t = absurd (omega (arith, ap hits_in (sym e ∙ is ∙ answer-is true t)))
          go false t = (refl, omega (arith, ap hits_in (sym e ∙ is ∙ answer-is false t)))

      pub no-hits : Other r → (nan ≡ true) × (r ≡ (Err Nan))
      no-hits e = go nan refl
        where
          go : (b : Bool) → nan ≡ b → (b ≡ true) × (r ≡ (Err Nan))
          go true t = (refl, is ∙ answer-is true t)
          go false t = absurd (subst Other (is ∙ answer-is false t) e)

      -- of a call that answers this list: what it leaves after `hits::list` into its own places
      module _ (x : Index) (a : Arrays) (op : Op) (answers : result_of x a (unless (when nan 12) (hits (chosen score marks n k))) ≡ call x a op)
          (ns ms : List ℕ) (ss ts : List Float) (f : ms ≡ over (map (λ e. e.0) (shown score marks n k r)) ns)
          (g : ts ≡ over (map (λ e. e.1) (shown score marks n k r)) ss) where
        pub leaves-hits : (m : ℕ) → r ≡ Ok m → Leaves x a op found (granted m) ns ms ss ts
        leaves-hits m e =
            let sound = some-hits m e in
            let there = pairs-there (chosen score marks n k) ns ss m ms ts sound.1 (rw e at f) (rw e at g) in
            (ap (λ (es : List (ℕ × Float)). result_of x a (hits es)) there.0 ∙ ap (λ (b : Bool). result_of x a (unless (when b 12) (hits (chosen score marks n k)))) (sym sound.0) ∙ answers, there.1)

        pub leaves_none : Other r → Leaves x a op found (turned_down 12) ns ms ss ts
        unfolding over
        leaves_none e =
            let none = no-hits e in (
              ap (λ (b : Bool). result_of x a (unless (when b 12) (hits (chosen score marks n k)))) (sym none.0) ∙ answers,
              (rw none.1 at f, rw none.1 at g),
            )
