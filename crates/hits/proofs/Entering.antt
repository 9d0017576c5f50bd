-- The working arrays: slots are entered one after the other, until one has a NaN for its score.
use mathlib.Core.Path.{◌≡◌, refl, sym, ap, subst, ◌∙◌}
use mathlib.Core.Bool.{Bool, true, false, not, cond, ◌&&◌, ◌||◌}
use mathlib.Core.List.{List, [], ◌∷◌, map}
use Prim.Native.Nat.{ℕ, zero, suc, ◌+◌, ◌-◌, ◌≤◌, ◌<◌}
use native.Mathlib.Omega.{arith}
use borrow.Author.Tests.{not-true, not-false}
use lib.Dec.{T}
use lib.ListN.{length, get_or, set}
use lib.Seq.{sets}
use lib.Ieee.{Float, nan, is_nan}
use Rattle.std.specs.List.{list_any, range_with_len}
use Rattle.std.proofs.lemmas.List.FromFn.{length-map-range_with_len}
use Rattle.pattern.specs.Binary32.{+0}
use Rattle.lists.specs.Lists.{over, below}
use Rattle.lists.specs.Keep.{keep, Each, any}
use Rattle.lists.proofs.Laws.{length-tab}
use Rattle.lists.proofs.Keep.{get_or-sets_past}
use Rattle.lists.proofs.Ranges.{range-below, any_split, sets_more, sets_front, none_any, any-map}
use Rattle.score.specs.Order.{order_number}
use Rattle.marks.specs.Live.{live_at}
use Rattle.hits.specs.Hits.{scored_slots}
use Rattle.hits.specs.Steps.{score_entry, order_entry, nan_at, any_nan, Scores, EntersFrom, EntersSlot, EntersSlots}

pub never : {A : Type 0} → false ≡ true → A
never e = absurd (subst T (sym e) tt)

module _ (score : ℕ → Float) (marks : List ℕ) where
  -- ---- one slot

  module _ (i : ℕ) (all next : List Float) (orders after : List ℕ) where
    abbrev Enters : Bool → Type 0
    Enters r = EntersSlot score marks i all next orders after r

    pub enters-not : live_at marks i ≡ false → next ≡ set all i +0 → after ≡ set orders i 0 → Enters true
    unfolding score_entry order_entry
    enters-not m e f = record { sound = rw m; scores-in = λ _. rw m e; orders-in = λ _. rw m f }

    pub enters-nan : live_at marks i ≡ true → is_nan (score i) ≡ true → Enters false
    enters-nan m t = record { sound = rw (m, t); scores-in = never; orders-in = never }

    pub enters-score : live_at marks i ≡ true → is_nan (score i) ≡ false → next ≡ set all i (score i) →
        (o : ℕ) → o ≡ order_number (score i) → after ≡ set orders i o → Enters true
    unfolding score_entry order_entry
    enters-score m t f o g h = record { sound = rw (m, t); scores-in = λ _. rw m f; orders-in = λ _. rw (m, ← g) h }

  -- ---- whether a slot that takes part has a NaN

  abbrev any_of : List ℕ → Bool
  any_of is = any (λ (e : ℕ × Float). is_nan e.1) (map (λ i. (i, score i)) is)

  any-scored : (is : List ℕ) → any_of (keep (live_at marks) is) ≡ list_any (nan_at score marks) is
  unfolding any
  any-scored [] = refl
  any-scored (i ∷ is) = go (live_at marks i) (any-scored is)
    where
      go : (b : Bool) → any_of (keep (live_at marks) is) ≡ list_any (nan_at score marks) is →
          any_of (cond b (i ∷ keep (live_at marks) is) (keep (live_at marks) is)) ≡ ((b && is_nan (score i)) || list_any (nan_at score marks) is)
      go true ih = ap (λ (b : Bool). is_nan (score i) || b) ih
      go false ih = ih

  pub any_nan_scored : (n : ℕ) → any (λ (e : ℕ × Float). is_nan e.1) (scored_slots score marks n) ≡ any_nan score marks 0 n
  unfolding scored_slots
  any_nan_scored n = rw (← range-below n) (any-scored (range_with_len 0 n))

  pub no_nan : (n : ℕ) → any_nan score marks 0 n ≡ false → Each (λ i. nan_at score marks i ≡ false) (below n)
  no_nan n e = rw (← range-below n) (none_any (nan_at score marks) (range_with_len 0 n) e)

-- ---- only the scores of slots that take part count

module _ (marks : List ℕ) (other score : ℕ → Float) where
  abbrev Alike : (first many : ℕ) → Type 0
  Alike first many = (i : ℕ) → first ≤ i → i < first + many → live_at marks i ≡ true → other i ≡ score i

  like : {X : Type 0} (f : Bool → Float → X) → ((x y : Float) → f false x ≡ f false y) → (first many : ℕ) → Alike first many →
      map (λ i. f (live_at marks i) (other i)) (range_with_len first many) ≡ map (λ i. f (live_at marks i) (score i)) (range_with_len first many)
  like f c first zero a = refl
  like f c first (suc n) a = rw (go (live_at marks first) refl, like f c (first + 1) n (λ i l m. a i (omega arith) (omega arith)))
    where
      go : (b : Bool) → live_at marks first ≡ b → f b (other first) ≡ f b (score first)
      go true m = ap (f true) (a first (omega arith) (omega arith) m)
      go false m = c (other first) (score first)

  module _ {all next : List Float} {orders after : List ℕ} {r : Bool} (first many : ℕ) (a : Alike first many) where
    enters_like : EntersFrom other marks first many all next orders after r → EntersFrom score marks first many all next orders after r
    unfolding score_entry order_entry
    enters_like e =
        record {
          sound =
              e.sound ∙ ap not (any-map (nan_at other marks) (range_with_len first many)
              ∙ ap (list_any (λ b. b)) (like (λ b x. b && is_nan x) (λ x y. refl) first many a) ∙ sym (any-map (nan_at score marks) (range_with_len first many)));
          scores-in = λ t. e.scores-in t ∙ ap (sets all first) (like (λ b x. cond b x +0) (λ x y. refl) first many a);
          orders-in = λ t. e.orders-in t ∙ ap (sets orders first) (like (λ b x. cond b (order_number x) 0) (λ x y. refl) first many a);
        }

-- ---- slot after slot, and group after group

-- one of the first i slots has a NaN: so has one of n
pub enters_stop : {score : ℕ → Float} {marks : List ℕ} {first i n : ℕ} {all next : List Float} {orders after : List ℕ} →
    EntersFrom score marks first i all next orders after false → i ≤ n → EntersFrom score marks first n all next orders after false
enters_stop {score} {marks} {first} {i} {n} e h =
    record {
      sound = rw (any_split first i (first + i) (n - i) n refl (omega arith) (nan_at score marks), not-false _ (sym e.sound)) refl;
      scores-in = never;
      orders-in = never;
    }

-- the scores that stand in an array
abbrev read : List Float → ℕ → Float
read xs i = get_or xs i nan

-- the first i slots are entered, and then k others, from j on, by the scores that stand in the array by then
pub enters_more : {marks : List ℕ} {first i j k n : ℕ} {all mid next : List Float} {orders onmid after : List ℕ} {r s : Bool} →
    EntersFrom (read all) marks first i all mid orders onmid true → EntersFrom (read mid) marks j k mid next onmid after r →
    first + i ≡ j → i + k ≡ n → r ≡ s → EntersFrom (read all) marks first n all next orders after s
enters_more {marks} {first} {i} {j} {k} {n} {all} {mid} {orders = orders} b e f g q =
    let own = enters_like marks (read mid) (read all) j k at e in
    record {
      sound = rw (any_split first i j k n f g (nan_at (read all) marks), not-true _ (sym b.sound)) (sym q ∙ own.sound);
      scores-in = λ t. sets_more first i j k n f g _ all (b.scores-in refl) (own.scores-in (q ∙ t));
      orders-in = λ t. sets_more first i j k n f g _ orders (b.orders-in refl) (own.orders-in (q ∙ t));
    }
  where
    -- the places of the later slots are still as they were
    at : (l : ℕ) → j ≤ l → l < j + k → live_at marks l ≡ true → read mid l ≡ read all l
    at l h m t =
        ap (λ (xs : List Float). read xs l) (b.scores-in refl)
        ∙ get_or-sets_past all first (map (score_entry (read all) marks) (range_with_len first i)) l nan
        (omega (arith, f, length-map-range_with_len (score_entry (read all) marks) first i))

-- ---- by scores that stand in the array

pub entered-scores : {score : ℕ → Float} {marks : List ℕ} {n : ℕ} {all mid next : List Float} {orders after : List ℕ} {r : Bool} → n ≤ length all → Scores score marks n all mid →
    EntersSlots (read mid) marks n mid next orders after r → EntersSlots score marks n all next orders after r
unfolding over
entered-scores {score} {marks} {n} {all} {mid} h s e =
    let own = enters_like marks (read mid) score 0 n (λ i l m t. s.there i (omega arith) t) e in
    let f = score_entry score marks in
    record {
      sound = own.sound;
      scores-in = λ t. own.scores-in t ∙ sets_front f n mid (rw s.same h) ∙ rw (length-tab f n, s.rest) refl ∙ sym (sets_front f n all h);
      orders-in = own.orders-in;
    }
