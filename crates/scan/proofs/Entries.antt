-- The array of scores, changed entry by entry and group by group.
use mathlib.Core.Path.{◌≡◌, refl, sym, ap, subst, ◌∙◌}
use mathlib.Core.Bool.{Bool, true, false, cond}
use mathlib.Core.List.{List, ◌++◌}
use Prim.Native.Nat.{ℕ, ◌+◌, ◌-◌, ◌*◌, ◌≤◌, ◌<◌, min}
use native.Mathlib.Decide.{dec_lt}
use native.Mathlib.Omega.{arith}
use borrow.Author.Tests.{le-leb, lt-leb}
use lib.Dec.{ltb}
use lib.ListN.{length, take, drop, get_or, length-drop}
use lib.Seq.{length-take-le, get_or-take, get_or-drop}
use Rattle.std.proofs.lemmas.Grind.{common_steps}
use Rattle.std.proofs.lemmas.List.{get_or_append_left, get_or-append_right}
use lib.Ieee.{Float, nan}
use Rattle.pattern.specs.Binary32.{◌⊕◌}
use Rattle.lists.specs.Lists.{tab, over}
use Rattle.lists.proofs.Front.{over-ext}
use Rattle.marks.specs.Live.{live_at}
use Rattle.marks.specs.Word.{Lives, live_in}
use Rattle.marks.proofs.Words.{bit-zero}
use Rattle.scan.specs.Scan.{score_after, score_now, scanned}
use Rattle.scan.specs.Groups.{Rescored}

module _ (g : ℕ → Float → Float) where
  pub changed-join : (a b c : ℕ) (x y z : List Float) → Rescored g a b x y → Rescored g b c y z → a ≤ b → b ≤ c → Rescored g a c x z
  changed-join a b c x y z one two l m =
      record {
        same = two.same ∙ one.same;
        inside =
            λ i p q. elim (dec_lt i b) [
              | yes r ↦ two.outside i (λ s t. omega arith) ∙ one.inside i p r
              | no r ↦ two.inside i (omega arith) q ∙ ap (g i) (one.outside i (λ s t. r t))
            ];
        outside = λ i n. two.outside i (λ p q. n (omega arith) q) ∙ one.outside i (λ p q. n p (omega arith));
      }

  pub changed-end : (from to n : ℕ) (all next : List Float) → Rescored g from to all next → to ≤ n → n ≤ to → Rescored g from n all next
  changed-end from to n all next c h k = subst (λ (m : ℕ). Rescored g from m all next) {x = to} {y = n} (omega arith) c

  -- the slots of one word more
  pub changed-group : (n group many : ℕ) (x y z : List Float) → Rescored g 0 (min (group * 64) n) x y → Rescored g (group * 64) (group * 64 + many) y z → group * 64 ≤ n
      → group * 64 + many ≡ min ((group + 1) * 64) n → Rescored g 0 (min ((group + 1) * 64) n) x z
  changed-group n group many x y z one two h e =
      let first : ℕ = group * 64 in
      changed-end 0 (first + many) _ x z
      (changed-join 0 first (first + many) x y z (changed-end 0 _ first x y one (omega arith) (omega arith)) two (omega arith) (omega arith)) (omega arith) (omega arith)

  pub changed-like : (g' : ℕ → Float → Float) (from to : ℕ) (all next : List Float) → ((i : ℕ) (old : Float) → from ≤ i → i < to → g i old ≡ g' i old)
      → Rescored g from to all next → Rescored g' from to all next
  changed-like g' from to all next like c =
      record { same = c.same; inside = λ i p q. c.inside i p q ∙ like i (get_or all i nan) p q; outside = c.outside }

  -- a part of the entries, put back where it was taken from
  pub changed-part : (from n m k : ℕ) (all xs : List Float) → from + n ≤ length all → m ≡ n → length (take m (drop from all)) ≤ k
      → Rescored (λ i. g (from + i)) 0 k (take m (drop from all)) xs → Rescored g from (from + n) all (take from all ++ (xs ++ drop m (drop from all)))
  changed-part from n m k all xs room e l c =
      let start = length-take-le from all (omega arith) in
      let few : length xs ≡ n = c.same ∙ length-take-le m (drop from all) (rw (length-drop from all) (omega arith)) ∙ e in
      record {
        same = grind (arith, common_steps, few);
        inside = λ i p q. grind (arith, get_or-append_right, get_or_append_left, get_or-take, get_or-drop, few, start, c.same, c.inside (i - from));
        outside = λ i h. grind (arith, get_or-append_right, get_or_append_left, get_or-take, get_or-drop, few, start);
      }

  pub changed-all : (n : ℕ) (all next : List Float) → n ≤ length all → Rescored g 0 n all next → next ≡ over (tab (λ i. g i (get_or all i nan)) n) all
  changed-all n all next l c =
      over-ext (λ i. g i (get_or all i nan)) n nan all next l c.same (λ i h. c.inside i (omega arith) h) (λ i h k. c.outside i (λ p q. omega arith))

-- ---- the entries of slots

module _ (score : ℕ → Float) (marks : List ℕ) (second : Bool) where
  -- a word without a mark changes none of its slots
  pub none-changed : (first many word : ℕ) (all : List Float) → many ≤ 64 → Lives marks first word → word ≡ 0 →
      Rescored (score_now score marks second) first (first + many) all all
  unfolding score_after
  none-changed first many word all few l e =
      record { same = refl; inside = λ i p q. sym (ap (λ (b : Bool). score_after b second (score i) (get_or all i nan)) (dead i p q)); outside = λ i n. refl }
    where
      dead : (i : ℕ) → first ≤ i → i < first + many → live_at marks i ≡ false
      dead i p q =
          let at : first + (i - first) ≡ i = omega arith in
          ap (live_at marks) (sym at) ∙ sym (l.each (i - first) (omega arith)) ∙ ap (λ (w : ℕ). live_in w (i - first)) e ∙ ap (ltb 0) (bit-zero (i - first))

  pub scanned-all : (n : ℕ) (all next : List Float) → n ≤ length all → Rescored (score_now score marks second) 0 n all next → next ≡ scanned score marks second n all
  unfolding scanned
  scanned-all n all next l c = rw (le-leb n (length all) l) (changed-all (score_now score marks second) n all next l c)

  pub scanned-none : (n : ℕ) (all : List Float) → length all < n → all ≡ scanned score marks second n all
  unfolding scanned
  scanned-none n all l = rw (lt-leb n (length all) l)

  -- only the scores of marked slots count
  pub entry-like : (other : ℕ → Float) (i : ℕ) (old : Float) → (live_at marks i ≡ true → score i ≡ other i) → score_now score marks second i old ≡ score_now other marks second i old
  unfolding score_after
  entry-like other i old e = go (live_at marks i) refl
    where
      go : (b : Bool) → live_at marks i ≡ b → cond b (cond second (old ⊕ score i) (score i)) old ≡ cond b (cond second (old ⊕ other i) (other i)) old
      go true m = rw (e m)
      go false m = refl
