-- A cascade whose r is at least the live count has all live slots as candidates, and answers what the full search answers.
use mathlib.Core.Path.{◌≡◌, refl, sym, ap, ◌∙◌}
use mathlib.Core.Bool.{Bool, true, false, not, ◌&&◌, and-false}
use mathlib.Core.List.{List, [], ◌∷◌, map, Memᴰ}
use Prim.Native.Nat.{ℕ, zero, suc, ◌≤◌, ◌<◌}
use native.Mathlib.Omega.{arith}
use lib.Dec.{ltb, eqb}
use lib.ListN.{length}
use borrow.Author.Tests.{lt-ltb, le-ltb}
use Rattle.lists.specs.Keep.{bit, count}
use Rattle.lists.proofs.Keep.{each-mem, keep_all, count-length}
use Rattle.choose.specs.Choose.{choose}
use Rattle.encode.specs.declared.Header.{Header}
use Rattle.index.specs.declared.Index.{Index}
use Rattle.index.specs.Arrays.{Arrays}
use Rattle.index.specs.State.{State, state_of}
use Rattle.index.specs.Codec.{distance}
use Rattle.index.specs.Fit.{fit}
use Rattle.index.specs.Step.{Query, Answer, refused, hits, first_of, when, unless, Cell, live_from, hits_of, rank, by_slot, short_result, query_refusal, nearer, candidates, wide, searched, searched_cascade, search, search_cascade, answered, step}
use Rattle.index.specs.Call.{Result, laid_over, call}
use Rattle.index.proofs.Calls.{call-misfit, call_fits}
use Rattle.asking.proofs.Live.{live-length}

-- ---- all are candidates

bit-low : (b : Bool) → bit b ≤ 1
bit-low true = omega arith
bit-low false = omega arith

count-missed : (p : Cell → Bool) {c : Cell} {cs : List Cell} → Memᴰ c cs → p c ≡ false → count p cs < length cs
count-missed p (Memᴰ.head {x = d} {xs = ds} f) e = omega (arith, ap bit (sym (ap p f) ∙ e), count-length p ds)
count-missed p (Memᴰ.tail {x = d} {xs = ds} m) e = omega (arith, count-missed p m e, bit-low (p d))

not-before-itself : (h : Header) (q : Query) (c : Cell) → nearer h q c c ≡ false
not-before-itself h q c = let d = distance h q c.slot.code in rw (le-ltb d d (omega arith), le-ltb c.number c.number (omega arith)) (and-false (eqb d d))

pub candidates-all : (h : Header) (q : Query) (r : ℕ) (cs : List Cell) → length cs ≤ r → candidates h q r cs ≡ cs
unfolding candidates
candidates-all h q r cs l =
    keep_all (λ d. ltb (count (λ c. nearer h q c d) cs) r) cs
    (each-mem (λ d. ltb (count (λ c. nearer h q c d) cs) r ≡ true) cs
    (λ d m. lt-ltb (count (λ c. nearer h q c d) cs) r (omega (arith, count-missed (λ c. nearer h q c d) m (not-before-itself h q d)))))

-- ---- the step

module _ (s : State) (cs : List Cell) (q : Query) (k r places : ℕ) (l : length cs ≤ r) where
  all-hits : candidates s.header q (wide k r (length cs)) cs ≡ cs
  all-hits = candidates-all s.header q (wide k r (length cs)) cs (omega arith)

  pub step-all : ((n : ℕ) → searched_cascade s cs q k r places ≡ refused n → ⊥) →
      searched_cascade s cs q k r places ≡ searched s.header cs q k places (λ xs. hits (map by_slot xs))
  unfolding searched_cascade searched first_of
  step-all accepted = all ∙ go (short_result k (length cs) places) eleven (query_refusal s.header q (hits_of s.header q cs)) listed (λ n e. accepted n (all ∙ e))
    where
      eleven : ℕ
      eleven = when (not (s.cascade && eqb s.header.bits 4)) 11

      listed : Answer
      listed = hits (map by_slot (choose rank k (hits_of s.header q cs)))

      all : searched_cascade s cs q k r places ≡
          unless (first_of (short_result k (length cs) places ∷ eleven ∷ query_refusal s.header q (hits_of s.header q cs) ∷ [])) listed
      all = λ j.
          let xs = hits_of s.header q (all-hits j) in
          unless (first_of (short_result k (length cs) places ∷ eleven ∷ query_refusal s.header q xs ∷ [])) (hits (map by_slot (choose rank k xs)))

      go : (m c f : ℕ) (o : Answer) → ((n : ℕ) → unless (first_of (m ∷ c ∷ f ∷ [])) o ≡ refused n → ⊥) →
          unless (first_of (m ∷ c ∷ f ∷ [])) o ≡ unless (first_of (m ∷ f ∷ [])) o
      go zero zero f o h = refl
      go zero (suc c) f o h = absurd (h (suc c) refl)
      go (suc m) c f o h = refl

-- ---- the call

-- A cascade that is not refused, with r at least the live count, is the full search: the same answer, record and arrays. So neither call is refused.
pub call-all : (x : Index) (a : Arrays) (q : Query) (k r places : ℕ) → x.live ≤ r → ((n : ℕ) → (call x a (search_cascade q k r places)).answer ≡ refused n → ⊥) →
    call x a (search_cascade q k r places) ≡ call x a (search q k places)
unfolding step
call-all x a q k r places l accepted = go (fit x a) refl
  where
    go : (b : Bool) → fit x a ≡ b → call x a (search_cascade q k r places) ≡ call x a (search q k places)
    go false e = absurd (accepted 13 (ap (λ (o : Result). o.answer) (call-misfit x a (search_cascade q k r places) e)))
    go true e =
        call_fits x a (search_cascade q k r places) e
        ∙ ap (λ (o : Answer). laid_over a (answered (state_of x a) o))
        (step-all (state_of x a) (live_from 0 (state_of x a).slots) q k r places (omega (arith, live-length x a e))
        (λ n f. accepted n (ap (λ (o : Result). o.answer) (call_fits x a (search_cascade q k r places) e) ∙ f)))
        ∙ sym (call_fits x a (search q k places) e)
