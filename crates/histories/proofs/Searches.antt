-- What an accepted search lists, by arrival.
use mathlib.Core.Path.{◌≡◌, refl, sym, ap, ◌∙◌, subst}
use mathlib.Core.Bool.{Bool, true, false}
use mathlib.Core.List.{List, [], ◌∷◌, map, map-map, Memᴰ}
use mathlib.Core.Option.{Option, some}
use Prim.Native.Nat.{ℕ, ◌+◌, min, max, ◌≤◌, ◌<◌}
use native.Mathlib.Omega.{arith}
use lib.ListN.{length, length-map}
use lib.Dec.{T, eqb}
use lib.Ieee.{Float, eq, is_nan}
use borrow.Author.Tests.{eqb-true, eq-eqb, ne_eqb}
use Rattle.lists.specs.Keep.{bit, Each}
use Rattle.lists.proofs.Keep.{each-mem, each_weaken, count_none}
use Rattle.lists.proofs.Front.{each_map, map_each}
use Rattle.lists.proofs.Members.{each_of}
use Rattle.choose.specs.Choose.{choose}
use Rattle.choose.specs.Falling.{RisesBy}
use Rattle.choose.proofs.Choice.{choose-length, choose-each, choose-count, choose-falls, choose-others, choose-map}
use Rattle.choose.proofs.Ties.{Only, choose-ties}
use Rattle.score.specs.Order.{order_number}
use Rattle.score.proofs.Order.{same_number}
use Rattle.encode.specs.declared.Header.{Header}
use Rattle.index.specs.State.{Slot, new_slot}
use Rattle.index.specs.Codec.{score_of}
use Rattle.index.specs.Step.{Query, score_is, hits, first_of, unless, Hit, rank, hits_of, by_slot, query_refusal, short_result, searched, score_answer}
use Rattle.index.specs.History.{HistoryOp, score, search}
use Rattle.index.proofs.Kept.{first-none}
use Rattle.index.proofs.Passed as Passed
use Rattle.index.proofs.Passed.{scored-as}
use Rattle.index.proofs.Ties.{scores-fit}
use Rattle.histories.specs.Histories.{LiveArrival, ids, lives, accepted, Run, accepts, answer, scores, order_of, times, ListsBest, SearchesSound, begin}
use Rattle.histories.proofs.Reading.{unless-accepted}
use Rattle.histories.proofs.Arrivals.{Sorted}
use Rattle.histories.proofs.Held.{seen_after, cells_of}
use Rattle.histories.proofs.Tracks.{none_seen, ids-sorted}
use Rattle.histories.proofs.Machine.{cells_in, answer_of}
use Rattle.histories.proofs.Runs.{Good, full, each-moment, answer-machine, accepts-machine}
use Rattle.histories.proofs.Starts.{start-good}
use Rattle.histories.proofs.Keys.{Named, find-own, all_live}
use Rattle.histories.proofs.Traits.{told-by-trait}

-- ---- the scores of the live arrivals

module _ (h : Header) (q : Query) where
  cells-scored : (seen : ℕ → ℕ) (ls : List LiveArrival) → map by_slot (hits_of h q (cells_of seen ls)) ≡ map (λ l. (l.arrival, score_of h q l.code)) ls
  cells-scored seen [] = refl
  cells-scored seen (l ∷ ls) = ap (λ (r : List (ℕ × Float)). (l.arrival, score_of h q l.code) ∷ r) (cells-scored (seen_after seen l.key) ls)

-- each arrival stands once among the scores
times_none : (a : ℕ) (xs : List (ℕ × Float)) → Each (λ b. a < b) (map (λ x. x.0) xs) → times a xs ≡ 0
times_none a [] h = refl
times_none a (x ∷ xs) h = omega (arith, ap bit (ne_eqb x.0 a (λ e. omega (arith, h.0))), times_none a xs h.1)

times-once : (a : ℕ) (xs : List (ℕ × Float)) → Sorted (map (λ x. x.0) xs) → times a xs ≤ 1
times-once a [] h = omega arith
times-once a (x ∷ xs) h = go (eqb x.0 a) refl (times-once a xs h.1)
  where
    go : (b : Bool) → eqb x.0 a ≡ b → times a xs ≤ 1 → bit b + times a xs ≤ 1
    go true e k = let xa : x.0 ≡ a = eqb-true x.0 a e in omega (
      arith,
      times_none a xs
          (each_weaken (λ b. x.0 < b) (λ b. a < b) (map (λ y. y.0) xs) (λ b l. omega arith) h.0),
    )
    go false e k = omega arith

rises-of : (xs : List (ℕ × Float)) → Sorted (map (λ x. x.0) xs) → RisesBy (λ x. x.0) xs
rises-of [] h = tt
rises-of (x ∷ xs) h = (map_each (λ b. x.0 < b) (λ (y : ℕ × Float). y.0) xs h.0, rises-of xs h.1)

-- ---- an accepted search

module _ (r : Run) (g : Good r) (q : Query) (k places : ℕ) where
  abbrev head : Header
  head = r.told.header

  abbrev found : List Hit
  found = hits_of head q (cells_in r.told)

  abbrev listed : List (ℕ × Float)
  listed = choose order_of k (scores r q)

  listed-is : map by_slot (choose rank k found) ≡ listed
  listed-is = sym (choose-map order_of by_slot k found) ∙ ap (choose order_of k) (cells-scored head q none_seen r.told.living)

  scores-ids : map (λ x. x.0) (scores r q) ≡ ids r.told.living
  scores-ids = map-map (λ (x : ℕ × Float). x.0) (λ (l : LiveArrival). (l.arrival, score_of head q l.code)) r.told.living

  one_rank : (s : Float) → Each (Only order_of (λ x. eq x.1 s) (order_number s)) (scores r q)
  one_rank s =
      each_map (Only order_of (λ x. eq x.1 s) (order_number s)) (λ l. (l.arrival, score_of head q l.code)) r.told.living
      (each-mem (λ (l : LiveArrival). Only order_of (λ x. eq x.1 s) (order_number s) (l.arrival, score_of head q l.code)) r.told.living
      (λ l m e. same_number (score_of head q l.code) s (scores-fit head q l.code) (subst T (sym e) tt)))

  module _ (ok : accepts (record { before = r; op = search q k places }) ≡ true) where
    machine-ok : accepted (answer_of (full r) r.told (search q k places)) ≡ true
    machine-ok = sym (accepts-machine r g (search q k places) refl) ∙ ok

    passed : first_of (short_result k (length (cells_in r.told)) places ∷ query_refusal head q found ∷ []) ≡ 0
    unfolding answer_of searched
    passed = unless-accepted _ (hits (map by_slot (choose rank k found))) machine-ok

    search-answer : answer (record { before = r; op = search q k places }) ≡ some (hits listed)
    unfolding answer_of searched
    search-answer = answer-machine r g (search q k places) refl ∙ ap some (ap (λ (n : ℕ). unless n (hits (map by_slot (choose rank k found)))) passed ∙
        ap hits listed-is)

    query-passed : query_refusal head q found ≡ 0
    query-passed = (first-none (query_refusal head q found) [] (first-none _ (query_refusal head q found ∷ []) passed).1).0

    no_nan : Each (λ x. is_nan x.1 ≡ false) (scores r q)
    no_nan =
        subst (Each (λ x. is_nan x.1 ≡ false)) (cells-scored head q none_seen r.told.living)
        (each_map (λ x. is_nan x.1 ≡ false) by_slot found (Passed.no_nan head q found query-passed))

    -- the call `score` gives the same
    scored : (l : LiveArrival) → Memᴰ l r.told.living → answer (record { before = r; op = score l.arrival q }) ≡
        some (score_is (score_of head q l.code))
    unfolding answer_of
    scored l m =
        let own = each_of (Named (cells_in r.told)) m (find-own none_seen r.told.living (ids-sorted g.tracks)) in
        answer-machine r g (score l.arrival q) (each_of (λ (x : LiveArrival). lives r.told.living x.arrival ≡ true) m (all_live r.told.living)) ∙
        ap (λ (o : Option Slot). some (score_answer head q o)) own.1 ∙
        ap some (scored-as head q found query-passed (new_slot own.0 l.code l.year)
        (each_of (λ (x : LiveArrival). is_nan (score_of head q x.code) ≡ false) m (map_each (λ x. is_nan x.1 ≡ false)
        (λ (x : LiveArrival). (x.arrival, score_of head q x.code)) r.told.living no_nan)))

    pub search-lists : ListsBest (record { before = r; op = search q k places }) q k
    search-lists =
        record {
          list = listed;
          answered = search-answer;
          exactly = choose-length order_of k (scores r q) ∙ ap (min (max k 1)) (length-map r.told.living _);
          distinct = λ a. omega (arith, choose-count order_of k (scores r q) (λ x. eqb x.0 a), times-once a (scores r q) (rw scores-ids (ids-sorted g.tracks)));
          are_live = choose-each order_of k (scores r q) (λ x. Memᴰ x (scores r q)) (each-mem (λ x. Memᴰ x (scores r q)) (scores r q) (λ x m. m));
          traits = λ one. told-by-trait r g one q;
          as_scored =
              choose-each order_of k (scores r q) (λ x. answer (record { before = r; op = score x.0 q }) ≡ some (score_is x.1))
              (each_map (λ x. answer (record { before = r; op = score x.0 q }) ≡ some (score_is x.1)) (λ l. (l.arrival, score_of head q l.code))
              r.told.living
              (each-mem (λ l. answer (record { before = r; op = score l.arrival q }) ≡ some (score_is (score_of head q l.code))) r.told.living scored));
          falls = choose-falls order_of k (scores r q);
          ties = λ s.
              choose-ties order_of (λ x. eq x.1 s) (order_number s) (λ x. x.0) k (scores r q) (one_rank s) (rises-of (scores r q) (rw scores-ids (ids-sorted g.tracks)));
          at_most = λ x m z. choose-others order_of k (scores r q) x m (λ n. count_none (λ (y : ℕ × Float). eqb y.0 x.0) n z (eq-eqb x.0 x.0 refl));
        }

pub searches-sound : SearchesSound
searches-sound x a s h l =
    each-moment (λ m. (q : Query) (k places : ℕ) → m.op ≡ search q k places → accepts m ≡ true → ListsBest m q k)
    (λ r g op n q k places e ok.
    subst (λ (o : HistoryOp). ListsBest (record { before = r; op = o }) q k) (sym e)
    (search-lists r g q k places (subst (λ (o : HistoryOp). accepts (record { before = r; op = o }) ≡ true) e ok)))
    (begin x a) (start-good x a s) h l
