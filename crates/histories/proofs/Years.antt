-- A live arrival whose year is 0, or is not reached, lives on with its code: it follows from what the calls tell.
use mathlib.Core.Path.{◌≡◌, refl, sym, ap, ◌∙◌, subst}
use mathlib.Core.Bool.{Bool, true, false, not, cond, ◌&&◌, ◌||◌}
use mathlib.Core.List.Memᴰ
use mathlib.Core.List.{List, [], ◌∷◌, Memᴰ}
use mathlib.Core.Option.{Option, none, some, some-injective, none-ne-some}
use Prim.Native.Nat.{ℕ, ◌<◌}
use lib.ListN.{get_elem?}
use lib.Dec.{T, eqb}
use borrow.Author.Tests.{lt-ltb}
use Rattle.lists.specs.Keep.{keep, Each}
use Rattle.lists.proofs.Keep.{either, each-mem, each_weaken, mem-keep}
use Rattle.lists.proofs.Members.{each_of, mem-map, any_none}
use Rattle.encode.specs.declared.Header.{Header}
use Rattle.encode.specs.Coded.{fault}
use Rattle.index.specs.Step.{Item, refused, flag, slot, first_of, when, must_stay}
use Rattle.index.specs.History.{HistoryOp, add, add_keyed, add_multi, relabel, remove, compact, score, search, search_keyed, key_of, contains, slot_of, file_length, write}
use Rattle.index.proofs.Kept.{first-none, when-none}
use Rattle.histories.specs.Histories.{History, LiveArrival, Told, carries, taken, newcomer, arrived, coded_anew, first_overwritten, renames, renamed, says, accepted, Run, advance, after, moment, accepts, first_with, one_stays, told_present, LivesOn, KeptInTime, KeepsYears}
use Rattle.histories.proofs.Reading.{unless-accepted}
use Rattle.histories.proofs.Held.{found, first-taken, first_stays}
use Rattle.histories.proofs.Machine.{appending_or_over, answer_of}
use Rattle.histories.proofs.Runs.{Good, full, advance-good, accepts-machine}

-- ---- overwriting

module _ (h : Header) (j : ℕ) (v : Item) (y : ℕ) where
  -- one that must stay is kept, where the first of the key may go
  kept-overwritten : (present : ℕ) {l : LiveArrival} {ls : List LiveArrival} → Memᴰ l ls → first_stays present (first_with j ls) ≡ false → must_stay present l.year ≡ true →
      Memᴰ l (first_overwritten h j v y ls)
  kept-overwritten present {l} (Memᴰ.head {x = x} {xs = ls} e) f s = go (carries j x) f
    where
      go : (b : Bool) → first_stays present (get_elem? (cond b (x ∷ keep (carries j) ls) (keep (carries j) ls)) 0) ≡ false →
          Memᴰ l (cond b (coded_anew h v y x ∷ ls) (x ∷ first_overwritten h j v y ls))
      go true g = absurd (subst T (sym (ap (λ (m : LiveArrival). must_stay present m.year) (sym e) ∙ s) ∙ g) tt)
      go false g = Memᴰ.head e
  kept-overwritten present {l} (Memᴰ.tail {x = x} {xs = ls} m) f s = go (carries j x) f (λ g. kept-overwritten present m g s)
    where
      go : (b : Bool) → first_stays present (get_elem? (cond b (x ∷ keep (carries j) ls) (keep (carries j) ls)) 0) ≡ false →
          (first_stays present (first_with j ls) ≡ false → Memᴰ l (first_overwritten h j v y ls)) →
          Memᴰ l (cond b (coded_anew h v y x ∷ ls) (x ∷ first_overwritten h j v y ls))
      go true g ih = Memᴰ.tail m
      go false g ih = Memᴰ.tail (ih g)

  -- the first of the key, as it is coded anew
  anew-there : (l : LiveArrival) (ls : List LiveArrival) → first_with j ls ≡ some l → Memᴰ (coded_anew h v y l) (first_overwritten h j v y ls)
  anew-there l [] e = absurd (none-ne-some l e)
  anew-there l (x ∷ ls) e = go (carries j x) e (anew-there l ls)
    where
      go : (b : Bool) → get_elem? (cond b (x ∷ keep (carries j) ls) (keep (carries j) ls)) 0 ≡ some l →
          (first_with j ls ≡ some l → Memᴰ (coded_anew h v y l) (first_overwritten h j v y ls)) →
          Memᴰ (coded_anew h v y l) (cond b (coded_anew h v y x ∷ ls) (x ∷ first_overwritten h j v y ls))
      go true f ih = Memᴰ.head (ap (coded_anew h v y) (sym (some-injective x l f)))
      go false f ih = Memᴰ.tail (ih f)

-- ---- one call

own : {l : LiveArrival} {ls : List LiveArrival} → Memᴰ l ls → LivesOn l ls
own {l} m = record { same = l; lives = m; arrival = refl; code = refl; year = refl }

-- whatever present year the call is told, the year is one that must stay
abbrev Stays : (year : ℕ) → HistoryOp → Type 0
Stays y op = (present : ℕ) → told_present op ≡ some present → must_stay present y ≡ true

module _ (r : Run) (g : Good r) where
  -- an accepted overwrite found a first of the key that may go
  first-may-go : (j : ℕ) (v : Item) (present : ℕ) (o : Option LiveArrival) → accepted (appending_or_over (full r) r.told v present o) ≡ true → first_stays present o ≡ false
  first-may-go j v present none e = refl
  first-may-go j v present (some l) e =
      let n : ℕ = when (must_stay present l.year) 21 in
      let passed = unless-accepted (first_of (fault r.told.header v.vector ∷ n ∷ [])) (slot l.arrival) e in
      when-none (must_stay present l.year) 20 (first-none n [] (first-none (fault r.told.header v.vector) (n ∷ []) passed).1).0

  none-must-stay : (b c : Bool) → accepted (cond b (refused 21) (flag c)) ≡ true → b ≡ false
  none-must-stay true c e = absurd (subst T (sym e) tt)
  none-must-stay false c e = refl

  module _ (l : LiveArrival) (m : Memᴰ l r.told.living) where
    older : (key : Option ℕ) (v : Item) (y : ℕ) → Memᴰ l (arrived r.told key v y).living
    older key v y = Memᴰ.append_left (newcomer r.told key v y ∷ []) m

    -- after an accepted call an arrival that must stay is still told of
    told-on : (op : HistoryOp) → Stays l.year op → accepts (moment r op) ≡ true → LivesOn l (says op r.told).living
    unfolding says answer_of
    told-on (add v y) s ok = own (older none v y)
    told-on (add_keyed j v y present) s ok =
        own (either (λ (t : Told). Memᴰ l t.living) (taken j r.told.living)
        (kept-overwritten r.told.header j v y present m
        (first-may-go j v present (first_with j r.told.living) (sym (accepts-machine r g (add_keyed j v y present) refl) ∙ ok)) (s present refl))
        (older (some j) v y))
    told-on (add_multi j v y) s ok = own (older (some j) v y)
    told-on (relabel j k) s ok =
        either (LivesOn l) (renames j k r.told.living)
        (record { same = renamed j k l; lives = mem-map (renamed j k) m; arrival = refl; code = refl; year = refl }) (own m)
    told-on (remove j present) s ok =
        own (mem-keep (λ (x : LiveArrival). not (carries j x)) (ap not (goes (carries j l) (must_stay present l.year) free (s present refl))) m)
      where
        free : (carries j l && must_stay present l.year) ≡ false
        free =
            each_of (λ (x : LiveArrival). (carries j x && must_stay present x.year) ≡ false) m
            (any_none (λ (x : LiveArrival). carries j x && must_stay present x.year) r.told.living
            (none-must-stay (one_stays j present r.told.living) (taken j r.told.living) (sym (accepts-machine r g (remove j present) refl) ∙ ok)))

        goes : (b c : Bool) → (b && c) ≡ false → c ≡ true → b ≡ false
        goes true c e f = absurd (subst T (sym f ∙ e) tt)
        goes false c e f = refl
    told-on compact s ok = own m
    told-on (score a q) s ok = own m
    told-on (search q k places) s ok = own m
    told-on (search_keyed q k places) s ok = own m
    told-on (key_of a) s ok = own m
    told-on (contains j) s ok = own m
    told-on (slot_of j i) s ok = own m
    told-on file_length s ok = own m
    told-on (write places) s ok = own m

    lives-on : (op : HistoryOp) → Stays l.year op → LivesOn l (advance r op).told.living
    unfolding advance
    lives-on op s = go (accepts (moment r op)) refl
      where
        go : (b : Bool) → accepts (moment r op) ≡ b → LivesOn l (cond b (says op r.told) r.told).living
        go true e = told-on op s e
        go false e = own m

-- ---- a history

lives_after : (r : Run) → Good r → (l : LiveArrival) → Memᴰ l r.told.living → (h : History) → Each (Stays l.year) h → LivesOn l (after r h).told.living
lives_after r g l m [] s = own m
lives_after r g l m (op ∷ h) s =
    let p : LivesOn l (advance r op).told.living = lives-on r g l m op s.0 in
    let q = lives_after (advance r op) (advance-good r g op) p.same p.lives h (subst (λ (y : ℕ). Each (Stays y) h) (sym p.year) s.1) in
    record { same = q.same; lives = q.lives; arrival = q.arrival ∙ p.arrival; code = q.code ∙ p.code; year = q.year ∙ p.year }

unreached-stays : (present y : ℕ) → 1 < y → present < y → must_stay present y ≡ true
unreached-stays present y d e = rw (lt-ltb 1 y d, lt-ltb present y e) (go (eqb y 0))
  where
    go : (b : Bool) → (b || true) ≡ true
    go true = refl
    go false = refl

kept-in-time : (r : Run) → Good r → (l : LiveArrival) → Memᴰ l r.told.living → KeptInTime r l
kept-in-time r g l m =
    record {
      for_good = λ e h. lives_after r g l m h (each-mem (Stays l.year) h (λ op n present told. rw e));
      in_time = λ d h s. lives_after r g l m h (each_weaken _ (Stays l.year) h (λ op f present told. unreached-stays present l.year d (f present told)) s);
    }

-- ---- from the moment of its adding

module _ (r : Run) (g : Good r) where
  module _ (op : HistoryOp) (ok : accepts (moment r op) ≡ true) where
    told-said : (advance r op).told ≡ says op r.told
    unfolding advance
    told-said = ap (λ (b : Bool). cond b (says op r.told) r.told) ok

    kept-from : (l : LiveArrival) → Memᴰ l (says op r.told).living → KeptInTime (advance r op) l
    kept-from l m = kept-in-time (advance r op) (advance-good r g op) l (rw told-said m)

  newest : (key : Option ℕ) (v : Item) (y : ℕ) → Memᴰ (newcomer r.told key v y) (arrived r.told key v y).living
  newest key v y = Memᴰ.append_right r.told.living (Memᴰ.head refl)

  pub keeps-years : KeepsYears r
  unfolding says
  keeps-years =
      record {
        living = each-mem (KeptInTime r) r.told.living (kept-in-time r g);
        added = λ v y ok. kept-from (add v y) ok _ (newest none v y);
        added_keyed = λ j v y present free ok. kept-from (add_keyed j v y present) ok _ (rw free (newest (some j) v y));
        added_multi = λ j v y ok. kept-from (add_multi j v y) ok _ (newest (some j) v y);
        overwritten = λ j v y present l e ok.
            kept-from (add_keyed j v y present) ok _
            (rw (sym (first-taken j r.told.living) ∙ ap found e) (anew-there r.told.header j v y l r.told.living e));
      }
