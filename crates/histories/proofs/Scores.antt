-- Scores and keyed lists by what the calls tell.
use mathlib.Core.Path.{◌≡◌, refl, sym, ap, ◌∙◌, subst}
use mathlib.Core.Bool.{true}
use mathlib.Core.List.{List, [], ◌∷◌, map, Memᴰ}
use mathlib.Core.Option.{Option, some, some-injective}
use Prim.Native.Nat.{ℕ, zero, suc}
use native.Mathlib.Omega.{arith}
use lib.ListN.{length}
use lib.Ieee.{Float, is_nan}
use Rattle.lists.specs.Keep.{Each}
use Rattle.lists.proofs.Keep.{each-mem, each_weaken, each_both}
use Rattle.lists.proofs.Front.{each_map}
use Rattle.lists.proofs.Members.{mem-map}
use Rattle.choose.specs.Choose.{choose}
use Rattle.choose.proofs.Choice.{choose-each}
use Rattle.encode.specs.declared.Header.{Header}
use Rattle.encode.specs.Coded.{fault}
use Rattle.index.specs.State.{Slot}
use Rattle.index.specs.Codec.{score_of}
use Rattle.index.specs.Step.{Query, Answer, refused, score_is, hits, key_hits, first_of, when, unless, key_of_mark, Hit, rank, hit_of, hits_of, by_slot, by_key, query_refusal, short_result, searched, score_answer}
use Rattle.index.specs.History.{score, search, search_keyed}
use Rattle.index.proofs.Passed.{unless-hits}
use Rattle.histories.specs.Histories.{LiveArrival, live_arrival, lives, accepted, Run, moment, accepts, answer, KeyedList, AnswersScores}
use Rattle.histories.proofs.Reading.{passed}
use Rattle.histories.proofs.Held.{cells_told}
use Rattle.histories.proofs.Tracks.{none_seen, ids-sorted}
use Rattle.histories.proofs.Machine.{cells_in, answer_of}
use Rattle.histories.proofs.Runs.{Good, answer-machine, accepts-machine}
use Rattle.histories.proofs.Keys.{Named, find-own, all_live}

-- ---- a refusal

-- what is refused is so whatever the list is
unless-refused : (n m : ℕ) (ys : List (ℕ × Float)) (b : Answer) → unless n (hits ys) ≡ refused m → unless n b ≡ refused m
unless-refused (suc n) m ys b e = e
unless-refused zero m ys b e = absurd (let z : ◌≡◌ {A = ℕ} 0 1 = cc in omega arith)

-- ---- the answers

module _ (r : Run) (g : Good r) where
  abbrev head : Header
  head = r.told.header

  abbrev living : List LiveArrival
  living = r.told.living

  module _ (q : Query) where
    scored-code : (s : Slot) → accepted (score_answer head q (some s)) ≡ true → score_answer head q (some s) ≡ score_is (score_of head q s.code)
    unfolding score_answer
    scored-code s e =
        let x : Float = score_of head q s.code in
        passed (first_of (fault head q.vector ∷ when (is_nan x) 12 ∷ [])) (score_is x) e

    score-told : (l : LiveArrival) → lives living l.arrival ≡ true → Named (cells_in r.told) l → accepts (moment r (score l.arrival q)) ≡ true →
        answer (moment r (score l.arrival q)) ≡ some (score_is (score_of head q l.code))
    unfolding answer_of
    score-told l n own ok =
        let e = ap (score_answer head q) own.1 in
        answer-machine r g (score l.arrival q) n ∙ ap some (e ∙ scored-code _ (ap accepted (sym e) ∙ sym (accepts-machine r g (score l.arrival q) n) ∙ ok))

    abbrev all : List Hit
    all = hits_of head q (cells_in r.told)

    -- each live arrival with its key stands among what is told
    keys-told : Each (λ x. Memᴰ {A = ℕ × Option ℕ} (x.number, x.key) (map (λ l. (l.arrival, l.key)) living)) all
    keys-told =
        each_map (λ x. Memᴰ {A = ℕ × Option ℕ} (x.number, x.key) (map (λ l. (l.arrival, l.key)) living)) (hit_of head q) (cells_in r.told)
        (each-mem (λ c. Memᴰ {A = ℕ × Option ℕ} (c.number, key_of_mark c.slot.mark) (map (λ l. (l.arrival, l.key)) living)) (cells_in r.told)
        (λ c m. subst (λ (ls : List LiveArrival). Memᴰ {A = ℕ × Option ℕ} (c.number, key_of_mark c.slot.mark) (map (λ l. (l.arrival, l.key)) ls))
        (cells_told none_seen living) (mem-map (λ (l : LiveArrival). (l.arrival, l.key)) (mem-map live_arrival m))))

    module _ (k places : ℕ) where
      abbrev refusal : ℕ
      refusal = first_of (short_result k (length (cells_in r.told)) places ∷ query_refusal head q all ∷ [])

      abbrev chosen : List Hit
      chosen = choose rank k all

      by-slot : answer (moment r (search q k places)) ≡ some (unless refusal (hits (map by_slot chosen)))
      unfolding answer_of searched
      by-slot = answer-machine r g (search q k places) refl

      by_key_lem : answer (moment r (search_keyed q k places)) ≡ some (unless refusal (key_hits (by_key [] chosen)))
      unfolding answer_of searched
      by_key_lem = answer-machine r g (search_keyed q k places) refl

      keyed-list : (list : List (ℕ × Float)) → answer (moment r (search q k places)) ≡ some (hits list) →
          (keyed : List (ℕ × Float)) × (answer (moment r (search_keyed q k places)) ≡ some (key_hits keyed)) × KeyedList living list keyed
      keyed-list list e =
          let p = unless-hits refusal (map by_slot chosen) list (some-injective _ _ (sym by-slot ∙ e)) in (
            by_key [] chosen,
            by_key_lem ∙ ap (λ (n : ℕ). some (unless n (key_hits (by_key [] chosen)))) p.0,
            record {
              chosen = chosen;
              listed = p.1;
              keys = choose-each rank k all (λ x. Memᴰ {A = ℕ × Option ℕ} (x.number, x.key) (map (λ l. (l.arrival, l.key)) living)) keys-told;
              dropped = refl;
            },
          )

      keyed-refused : (n : ℕ) → answer (moment r (search q k places)) ≡ some (refused n) → answer (moment r (search_keyed q k places)) ≡ some (refused n)
      keyed-refused n e = by_key_lem ∙ ap some (unless-refused refusal n (map by_slot chosen) (key_hits (by_key [] chosen)) (some-injective _ _ (sym by-slot ∙ e)))

  pub good-scores : AnswersScores r
  good-scores =
      record {
        scored = λ q.
            each_weaken (λ l. (lives living l.arrival ≡ true) × Named (cells_in r.told) l)
            (λ l. accepts (moment r (score l.arrival q)) ≡ true → answer (moment r (score l.arrival q)) ≡ some (score_is (score_of head q l.code))) living
            (λ l p. score-told q l p.0 p.1)
            (each_both (λ l. lives living l.arrival ≡ true) (Named (cells_in r.told)) living (all_live living) (find-own none_seen living (ids-sorted g.tracks)));
        listed = λ q k places. keyed-list q k places;
        turned_down = λ q k places. keyed-refused q k places;
      }
