-- What lent slices hold after a call is what its answer, read by arrival, says of them.
use mathlib.Core.Path.{◌≡◌, refl, sym, ap, ap₂, ◌∙◌}
use mathlib.Core.Bool.{true, true≢false}
use mathlib.Core.List.{List, [], ◌∷◌, map}
use mathlib.Core.Option
use mathlib.Core.Option.{Option, none, some, some-injective, none-ne-some, map-eq-some_iff}
use Prim.Native.Nat.{ℕ}
use lib.ListN.{length, drop, get_or}
use lib.Ieee.{Float}
use Rattle.pattern.specs.Binary32.{+0}
use Rattle.lists.specs.Lists.{tab}
use Rattle.lists.proofs.Laws.{length-tab}
use Rattle.lists.proofs.Entries.{first-and-later}
use Rattle.lists.proofs.Front.{map-tab}
use Rattle.index.specs.Verdict.{Verdict, granted, turned_down}
use Rattle.index.specs.Step.{Answer, refused, hits, key_hits, bytes}
use Rattle.index.specs.Answers.{how_many, first_entries, first_pairs, found, found_keyed, wrote, LaterKept}
use Rattle.histories.specs.Histories.{hit_and, hits_read, read, accepted, called, Moment, arrival_then, answer, LeaveAlike}
use Rattle.histories.proofs.Reading.{read-accepted}

-- ---- what was read

-- hits that are read: as many, with the same scores, each slot that of its arrival
record HitsRead (f : ℕ → Option ℕ) (xs list : List (ℕ × Float)) : Type 0 where
  slots : map f (map (λ x. x.0) xs) ≡ map (λ x. some x.0) list
  scores : map (λ x. x.1) xs ≡ map (λ x. x.1) list

hits-are : (f : ℕ → Option ℕ) (xs list : List (ℕ × Float)) → hits_read f xs ≡ some list → HitsRead f xs list
hits-are f [] list e = let z : [] ≡ list = some-injective [] list e in record { slots = ap (map (λ x. some x.0)) z; scores = ap (map (λ x. x.1)) z }
hits-are f (x ∷ xs) list e = go (f x.0) refl e (hits-are f xs)
  where
    go : (o : Option ℕ) → f x.0 ≡ o → hit_and (Option.map (λ a. (a, x.1)) o) (hits_read f xs) ≡ some list →
        ((more : List (ℕ × Float)) → hits_read f xs ≡ some more → HitsRead f xs more) → HitsRead f (x ∷ xs) list
    go none g h ih = absurd (none-ne-some list h)
    go (some a) g h ih =
        let p = (map-eq-some_iff (λ ys. (a, x.1) ∷ ys) (hits_read f xs)).0 h in
        let q : HitsRead f xs p.0 = ih p.0 p.1 in
        record {
          slots = ap₂ (λ (o : Option ℕ) (os : List (Option ℕ)). o ∷ os) g q.slots ∙ ap (map (λ y. some y.0)) p.2;
          scores = ap (λ (ss : List Float). x.1 ∷ ss) q.scores ∙ ap (map (λ y. y.1)) p.2;
        }

-- ---- two calls with the same answer, read by arrival

abbrev scores_first : ℕ → List Float → List Float
scores_first m ss = tab (λ i. get_or ss i +0) m

-- of pairs, the numbers and the scores
module _ (m : ℕ) (ns : List ℕ) (ss : List Float) where
  numbers-first : map (λ x. x.0) (first_pairs m ns ss) ≡ first_entries m ns
  numbers-first = map-tab (λ (x : ℕ × Float). x.0) (λ i. (get_or ns i 0, get_or ss i +0)) m

  scores-first : map (λ x. x.1) (first_pairs m ns ss) ≡ scores_first m ss
  scores-first = map-tab (λ (x : ℕ × Float). x.1) (λ i. (get_or ns i 0, get_or ss i +0)) m

module _ (f g : ℕ → Option ℕ) (b : Answer) where
  -- what is read is accepted just where the answer is, so an accepted answer and a refusal are never read alike
  apart : (h i : ℕ → Option ℕ) (a : Answer) (n : ℕ) → accepted a ≡ true → read h a ≡ some b → read i (refused n) ≡ some b → ⊥
  apart h i a n ok d e =
      let z : accepted b ≡ accepted a = rw (d) at (read-accepted h a) in
      true≢false (sym ok ∙ sym z ∙ ap accepted (sym (some-injective (refused n) b e)))

  same-refusal : (m n : ℕ) → read f (refused m) ≡ some b → read g (refused n) ≡ some b → m ≡ n
  same-refusal m n d e =
      let z : refused m ≡ refused n = some-injective (refused m) b d ∙ sym (some-injective (refused n) b e) in cc

  -- the list that hits are read as
  read-hits : (h : ℕ → Option ℕ) (xs : List (ℕ × Float)) → read h (hits xs) ≡ some b → (list : List (ℕ × Float)) × HitsRead h xs list × (hits list ≡ b)
  read-hits h xs e = let p = (map-eq-some_iff hits (hits_read h xs)).0 e in (p.0, hits-are h xs p.0 p.1, p.2)

  found_alike : (r s : Verdict ℕ) (ns ms : List ℕ) (ss ts : List Float) → read f (found r ns ss) ≡ some b → read g (found s ms ts) ≡ some b →
      (r ≡ s) × (map f (first_entries (how_many r) ns) ≡ map g (first_entries (how_many s) ms)) × (scores_first (how_many r) ss ≡ scores_first (how_many s) ts)
  found_alike (granted m) (granted n) ns ms ss ts d e =
      let p = read-hits f (first_pairs m ns ss) d in
      let q = read-hits g (first_pairs n ms ts) e in
      let same : p.0 ≡ q.0 = (let z : hits p.0 ≡ hits q.0 = p.2 ∙ sym q.2 in cc) in
      let slots = p.1.slots ∙ ap (map (λ (x : ℕ × Float). some x.0)) same ∙ sym q.1.slots in
      let scores = p.1.scores ∙ ap (map (λ (x : ℕ × Float). x.1)) same ∙ sym q.1.scores in
      let first : scores_first m ss ≡ scores_first n ts = sym (scores-first m ns ss) ∙ scores ∙ scores-first n ms ts in
      let count : m ≡ n = sym (length-tab (λ i. get_or ss i +0) m) ∙ ap length first ∙ length-tab (λ i. get_or ts i +0) n in (
        ap granted count,
        ap (map f) (sym (numbers-first m ns ss)) ∙ slots ∙ ap (map g) (numbers-first n ms ts),
        first,
      )
  found_alike (granted m) (turned_down n) ns ms ss ts d e = absurd (apart f g (hits (first_pairs m ns ss)) n refl d e)
  found_alike (turned_down m) (granted n) ns ms ss ts d e = absurd (apart g f (hits (first_pairs n ms ts)) m refl e d)
  found_alike (turned_down m) (turned_down n) ns ms ss ts d e = (ap turned_down (same-refusal m n d e), refl, refl)

  keyed-alike : (r s : Verdict ℕ) (ns ms : List ℕ) (ss ts : List Float) → read f (found_keyed r ns ss) ≡ some b → read g (found_keyed s ms ts) ≡ some b →
      (r ≡ s) × (first_entries (how_many r) ns ≡ first_entries (how_many s) ms) × (scores_first (how_many r) ss ≡ scores_first (how_many s) ts)
  keyed-alike (granted m) (granted n) ns ms ss ts d e =
      let z : key_hits (first_pairs m ns ss) ≡ key_hits (first_pairs n ms ts) = some-injective _ b d ∙ sym (some-injective _ b e) in
      let same : first_pairs m ns ss ≡ first_pairs n ms ts = cc in
      let count : m ≡ n = sym (length-tab (λ i. (get_or ns i 0, get_or ss i +0)) m) ∙ ap length same ∙ length-tab (λ i. (get_or ms i 0, get_or ts i +0)) n in (
        ap granted count,
        sym (numbers-first m ns ss) ∙ ap (map (λ (x : ℕ × Float). x.0)) same ∙ numbers-first n ms ts,
        sym (scores-first m ns ss) ∙ ap (map (λ (x : ℕ × Float). x.1)) same ∙ scores-first n ms ts,
      )
  keyed-alike (granted m) (turned_down n) ns ms ss ts d e = absurd (apart f g (key_hits (first_pairs m ns ss)) n refl d e)
  keyed-alike (turned_down m) (granted n) ns ms ss ts d e = absurd (apart g f (key_hits (first_pairs n ms ts)) m refl e d)
  keyed-alike (turned_down m) (turned_down n) ns ms ss ts d e = (ap turned_down (same-refusal m n d e), refl, refl)

  written-alike : (r s : Verdict ℕ) (bs cs : List ℕ) → read f (wrote r bs) ≡ some b → read g (wrote s cs) ≡ some b →
      (r ≡ s) × (first_entries (how_many r) bs ≡ first_entries (how_many s) cs)
  written-alike (granted m) (granted n) bs cs d e =
      let z : bytes (first_entries m bs) ≡ bytes (first_entries n cs) = some-injective _ b d ∙ sym (some-injective _ b e) in
      let same : first_entries m bs ≡ first_entries n cs = cc in
      let count : m ≡ n = sym (length-tab (λ i. get_or bs i 0) m) ∙ ap length same ∙ length-tab (λ i. get_or cs i 0) n in (ap granted count, same)
  written-alike (granted m) (turned_down n) bs cs d e = absurd (apart f g (bytes (first_entries m bs)) n refl d e)
  written-alike (turned_down m) (granted n) bs cs d e = absurd (apart g f (bytes (first_entries n cs)) m refl e d)
  written-alike (turned_down m) (turned_down n) bs cs d e = (ap turned_down (same-refusal m n d e), refl)

-- a slice that held `old` before both calls
module _ {A : Type 0} (old xs ys : List A) (m n : ℕ) (e : m ≡ n) (p : LaterKept m old xs) (q : LaterKept n old ys) where
  later : drop m xs ≡ drop n ys
  later = p ∙ ap (λ (j : ℕ). drop j old) e ∙ sym q

  whole : (d : A) → tab (λ i. get_or xs i d) m ≡ tab (λ i. get_or ys i d) n → length xs ≡ length old → length ys ≡ length old → xs ≡ ys
  whole d f k l = first-and-later d m xs ys (k ∙ sym l) (f ∙ ap (tab (λ i. get_or ys i d)) (sym e)) (later ∙ ap (λ (j : ℕ). drop j ys) (sym e))

module _ (m n : Moment) (b : Answer) (e : answer m ≡ some b) (k : answer n ≡ some b) where
  read_as : (o : Moment) (c : Answer) → c ≡ (called o.before o.op).answer → answer o ≡ some b → read (arrival_then o) c ≡ some b
  unfolding answer
  read_as o c p q = ap (read (arrival_then o)) p ∙ q

  pub answered-alike : LeaveAlike m n
  answered-alike =
      record {
        slots = λ numbers scores p q.
            let a = found_alike (arrival_then m) (arrival_then n) b p.handed q.handed p.numbers_after q.numbers_after p.scores_after q.scores_after
            (read_as m _ p.answered e) (read_as n _ q.answered k) in
            let c : how_many p.handed ≡ how_many q.handed = ap how_many a.0 in (
              a.0,
              a.1,
              later numbers p.numbers_after q.numbers_after _ _ c p.kept.0 q.kept.0,
              whole scores p.scores_after q.scores_after _ _ c p.kept.1 q.kept.1 +0 a.2 p.sized.1 q.sized.1,
            );
        keys = λ numbers scores p q.
            let a = keyed-alike (arrival_then m) (arrival_then n) b p.handed q.handed p.numbers_after q.numbers_after p.scores_after q.scores_after
            (read_as m _ p.answered e) (read_as n _ q.answered k) in
            let c : how_many p.handed ≡ how_many q.handed = ap how_many a.0 in (
              a.0,
              whole numbers p.numbers_after q.numbers_after _ _ c p.kept.0 q.kept.0 0 a.1 p.sized.0 q.sized.0,
              whole scores p.scores_after q.scores_after _ _ c p.kept.1 q.kept.1 +0 a.2 p.sized.1 q.sized.1,
            );
        files = λ file p q.
            let a = written-alike (arrival_then m) (arrival_then n) b p.handed q.handed p.file_after q.file_after
            (read_as m _ p.answered e) (read_as n _ q.answered k) in (
              a.0,
              whole file p.file_after q.file_after _ _ (ap how_many a.0) p.kept q.kept 0 a.1 p.sized q.sized,
            );
      }
