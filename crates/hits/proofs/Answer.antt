-- What the call answers and writes, by what its tests say.
use Rattle.std.specs.Prelude.{Ok, Err}
use Rattle.std.specs.List.{list_any, range_with_len}
use mathlib.Core.Path.{◌≡◌, refl, sym, ap, subst, ◌∙◌}
use mathlib.Core.Bool.{Bool, true, false, cond, ◌&&◌, ◌||◌}
use mathlib.Core.List.{List, [], ◌∷◌, map}
use Prim.Native.Nat.{ℕ, zero, suc, min, max, ◌≤◌}
use native.Mathlib.Omega.{arith}
use lib.Dec.{T, leb, ltb}
use lib.ListN.{length, take, get_or, length-map}
use lib.Seq.{length-take-le}
use lib.Ieee.{Float, binary32, fits}
use borrow.Author.Tests.{le-leb, lt-leb, leb-true, lt-ltb, le-ltb, ltb-true, ltb-false}
use Rattle.pattern.specs.Binary32.{+0}
use Rattle.lists.specs.Lists.{tab, over, below}
use Rattle.lists.specs.Keep.{keep}
use Rattle.lists.proofs.Laws.{length-tab}
use Rattle.choose.proofs.Choice.{choose-length}
use Rattle.score.specs.Order.{order_number}
use Rattle.padding.specs.Rotatable.{rotatable}
use Rattle.marks.specs.Live.{live_at}
use Rattle.lists.proofs.Tests.{and_left, and_right}
use Rattle.choose_slots.specs.Slots.{listed, listed_within}
use Rattle.lists.proofs.Ranges.{range-below}
use Rattle.hits.specs.declared.Unlisted.TheVariants.{Nan, Unable}
use Rattle.hits.specs.Hits.{Listed, chosen, shown, list_answer, ready}
use Rattle.hits.specs.Steps.{score_entry, order_entry, any_nan, WritesHits, any_takes_part, count_answer, ListsHits}
use Rattle.hits.proofs.Entering.{any_nan_scored, no_nan}
use Rattle.hits.proofs.Choosing.{picks, chosen-slots, chosen-scores, listed-picks, picks-scores}

-- ---- what is ready

pub ready-few : (n w working entries : ℕ) → ready n w working entries ≡ true → n ≤ 65536
unfolding ready
ready-few n w working entries e = leb-true n 65536 (and_left (leb n 65536) ((leb 4 w && leb w 6) && rotatable working entries 4096) e)

pub ready-width : (n w working entries : ℕ) → ready n w working entries ≡ true → (4 ≤ w) × (w ≤ 6)
unfolding ready
ready-width n w working entries e =
    let width = and_left (leb 4 w && leb w 6) (rotatable working entries 4096) (and_right (leb n 65536) ((leb 4 w && leb w 6) && rotatable working entries 4096) e) in
    (leb-true 4 w (and_left (leb 4 w) (leb w 6) width), leb-true w 6 (and_right (leb 4 w) (leb w 6) width))

pub ready-rotatable : (n w working entries : ℕ) → ready n w working entries ≡ true → rotatable working entries 4096 ≡ true
unfolding ready
ready-rotatable n w working entries e =
    and_right (leb 4 w && leb w 6) (rotatable working entries 4096) (and_right (leb n 65536) ((leb 4 w && leb w 6) && rotatable working entries 4096) e)

-- ---- whether a slot takes part

some-kept : {X : Type 0} (p : X → Bool) (xs : List X) → list_any p xs ≡ ltb 0 (length (keep p xs))
some-kept p [] = refl
some-kept p (x ∷ xs) = go (p x) (some-kept p xs)
  where
    go : (b : Bool) → list_any p xs ≡ ltb 0 (length (keep p xs)) → (b || list_any p xs) ≡ ltb 0 (length (cond b (x ∷ keep p xs) (keep p xs)))
    go true e = sym (lt-ltb 0 (suc (length (keep p xs))) (omega arith))
    go false e = e

pub any_marked : (marks : List ℕ) (n : ℕ) → list_any (live_at marks) (range_with_len 0 n) ≡ any_takes_part marks n
unfolding any_takes_part
any_marked marks n = ap (list_any (live_at marks)) (range-below n) ∙ some-kept (live_at marks) (below n)

-- ---- the answer by the count

pub count_none : (m : ℕ) (b c : Bool) → m ≤ 0 → b ≡ c → count_answer 0 c ≡ count_answer m b
count_none zero b c h e = ap (count_answer 0) (sym e)
count_none (suc m) b c h e = absurd (omega arith)

-- ---- the answer

module _ (score : ℕ → Float) (marks : List ℕ) (n k : ℕ) (slots : List ℕ) (scores : List Float) where
  abbrev places : ℕ
  places = min (length slots) (length scores)

  -- what the call ensures: its answer, and the two slices after it
  abbrev pub Answers : Bool → Listed → List ℕ → List Float → Type 0
  Answers ok r next after =
      (r ≡ list_answer score marks n ok k places)
      × ((next ≡ over (map (λ e. e.0) (shown score marks n k r)) slots) × (after ≡ over (map (λ e. e.1) (shown score marks n k r)) scores))

  pub not-ready : (ok : Bool) → ok ≡ false → Answers ok (Err Unable) slots scores
  unfolding list_answer over
  not-ready ok e = (rw e refl, (refl, refl))

  pub when-ready : (ok : Bool) → ok ≡ true → (r : Listed) (next : List ℕ) (after : List Float) → ListsHits score marks n k slots next scores after r → Answers ok r next after
  when-ready ok e r next after h = subst (λ (b : Bool). Answers b r next after) (sym e) (h.answers, (h.slots-in, h.scores-in))

  pub some_nan : any_nan score marks 0 n ≡ true → ListsHits score marks n k slots slots scores scores (Err Nan)
  unfolding list_answer over
  some_nan e = record { answers = rw (any_nan_scored score marks n, e) refl; slots-in = refl; scores-in = refl }

  -- every score is a binary32 and no NaN
  module _ (float : (i : ℕ) → T (fits binary32 (score i))) (few : n ≤ 65536) (none : any_nan score marks 0 n ≡ false) where
    abbrev numbers : List ℕ
    numbers = tab (order_entry score marks) n

    abbrev read : ℕ → Float
    read i = get_or (tab (score_entry score marks) n) i +0

    abbrev written : List ℕ
    written = listed_within numbers k (take places slots)

    -- both are the chosen slots where there are places for them, and else nothing
    abbrev short : Bool
    short = ltb places (length (picks score marks n k))

    written_is : written ≡ cond short [] (picks score marks n k)
    unfolding listed_within
    written_is =
        let p : length (take places slots) ≡ places = length-take-le places slots (omega arith) in
        let e : listed numbers k ≡ picks score marks n k = listed-picks score marks float n k (no_nan score marks n none) in
        rw (e, p, le-leb (length numbers) 65536 (rw (length-tab (order_entry score marks) n) few)) (go short refl)
      where
        go : (b : Bool) → short ≡ b → cond (leb (length (picks score marks n k)) places) (picks score marks n k) [] ≡ cond b [] (picks score marks n k)
        go true t = rw (lt-leb (length (picks score marks n k)) places (ltb-true places (length (picks score marks n k)) t))
        go false t = rw (le-leb (length (picks score marks n k)) places (ltb-false places (length (picks score marks n k)) t))

    -- as many as are asked for, of those that take part
    picks-many : length (picks score marks n k) ≡ min (max k 1) (length (keep (live_at marks) (below n)))
    picks-many = choose-length (λ i. order_number (score i)) k (keep (live_at marks) (below n))

    -- the answer by the count
    abbrev given : Bool → Listed
    given true = Err Unable
    given false = Ok (length (chosen score marks n k))

    answer-is : list_answer score marks n true k places ≡ given short
    unfolding list_answer
    answer-is = rw (any_nan_scored score marks n, none, sym (length-map (chosen score marks n k) (λ e. e.0)), chosen-slots score marks n k) (go short)
      where
        go : (b : Bool) → cond b (Err Unable) (Ok (length (picks score marks n k))) ≡ given b
        go true = refl
        go false = ap Ok (sym (ap length (chosen-slots score marks n k)) ∙ length-map (chosen score marks n k) (λ e. e.0))

    counted : (b : Bool) → short ≡ b → count_answer (length (cond b [] (picks score marks n k))) (any_takes_part marks n) ≡ given b
    unfolding any_takes_part
    counted true t =
        ap (count_answer 0) (lt-ltb 0 (length (keep (live_at marks) (below n))) (omega (arith, picks-many, ltb-true places (length (picks score marks n k)) t)))
    counted false t = go (length (picks score marks n k)) picks-many ∙ ap Ok (sym (ap length (chosen-slots score marks n k)) ∙ length-map (chosen score marks n k) (λ e. e.0))
      where
        go : (m : ℕ) → m ≡ min (max k 1) (length (keep (live_at marks) (below n))) → count_answer m (ltb 0 (length (keep (live_at marks) (below n)))) ≡ Ok m
        go zero e = ap (count_answer 0) (le-ltb 0 (length (keep (live_at marks) (below n))) (omega (arith, e)))
        go (suc m) e = refl

    slots-are : (b : Bool) → map (λ e. e.0) (shown score marks n k (given b)) ≡ cond b [] (picks score marks n k)
    slots-are true = refl
    slots-are false = chosen-slots score marks n k

    scores-are : (b : Bool) → map (λ e. e.1) (shown score marks n k (given b)) ≡ map read (cond b [] (picks score marks n k))
    scores-are true = refl
    scores-are false = chosen-scores score marks n k ∙ sym (picks-scores score marks n k)

    -- what is written by the working arrays
    pub all_sound : (all : List Float) (orders : List ℕ) → all ≡ tab (score_entry score marks) n → orders ≡ numbers → (m : ℕ) (next : List ℕ) (after : List Float) →
        WritesHits all orders k slots next scores after m → (r : Listed) → r ≡ count_answer m (any_takes_part marks n) → ListsHits score marks n k slots next scores after r
    all_sound all orders a o m next after h r e =
        let w : listed_within orders k (take places slots) ≡ cond short [] (picks score marks n k) = ap (λ (l : List ℕ). listed_within l k (take places slots)) o ∙ written_is in
        let is : r ≡ given short = e ∙ ap (λ (j : ℕ). count_answer j (any_takes_part marks n)) (h.many ∙ ap length w) ∙ counted short refl in
        record {
          answers = is ∙ sym answer-is;
          slots-in = h.slots-in ∙ ap (λ (l : List ℕ). over l slots) (w ∙ sym (slots-are short) ∙ ap (λ (j : Listed). map (λ e. e.0) (shown score marks n k j)) (sym is));
          scores-in = h.scores-in ∙ ap (λ (l : List Float). over l scores) ((λ j. map (λ i. get_or (a j) i +0) (w j)) ∙ sym (scores-are short) ∙ ap (λ (j : Listed). map (λ e. e.1) (shown score marks n k j)) (sym is));
        }
