-- Words over the first places of a lent slice.
use mathlib.Core.Path.{◌≡◌, refl, sym, ap, subst, ◌∙◌}
use mathlib.Core.List.{List, [], ◌∷◌}
use Prim.Native.Nat.{ℕ, zero, suc, ◌≤◌, ◌<◌}
use native.Mathlib.Omega.{arith}
use lib.ListN.{length, get_or, drop}
use borrow.Author.Tests.{le-ltb, lt-ltb}
use Rattle.lists.specs.Lists.{over}
use Rattle.index.specs.Verdict.{Verdict, granted, turned_down}
use Rattle.index.specs.Step.{refused}
use Rattle.index.specs.Answers.{length_is, LaterKept}
use Rattle.words.specs.Put.{Put, put, put_words, put_answer, put_count}
use Rattle.words.specs.Exports.{count_in_words, word_count}

module _ (n : ℕ) (new ws : List ℕ) where
  pub words-short : length ws < length new → put 13 ws ≡ put_words n new ws
  unfolding put_words
  words-short h = rw (lt-ltb (length ws) (length new) h)

  pub words-put : length new ≤ length ws → put n (over new ws) ≡ put_words n new ws
  unfolding put_words
  words-put h = rw (le-ltb (length ws) (length new) h)

-- a refusal has no word
pub refusal-put : (n : ℕ) (ws : List ℕ) → put n ws ≡ put_answer (refused n) ws
unfolding over
refusal-put n ws = words-put n [] ws (omega arith)

-- ---- a count or a refusal, read back

module _ (ws : List ℕ) (some : 1 ≤ length ws) where
  one_word : (m n : ℕ) (ws' : List ℕ) → put n ws' ≡ put_words 0 (m ∷ []) ws → (n ≡ 0) × ((get_or ws' 0 0 ≡ m) × LaterKept 1 ws ws')
  unfolding over
  one_word m n ws' p =
      let q : put n ws' ≡ put 0 (over (m ∷ []) ws) = p ∙ sym (words-put 0 (m ∷ []) ws some) in
      let w : ws' ≡ over (m ∷ []) ws = ap (λ (z : Put). z.words) q in
      (ap (λ (z : Put). z.number) q, (ap (λ (l : List ℕ). get_or l 0 0) w, ap (drop 1) w))

  refusal-kept : (k n : ℕ) (ws' : List ℕ) → put n ws' ≡ put k ws → LaterKept (word_count n) ws ws'
  refusal-kept k n ws' p = ap (λ (z : Put). drop (word_count n) z.words) p

  pub count-told : (f : Verdict ℕ) → (f ≡ turned_down 0 → ⊥) → (n : ℕ) (ws' : List ℕ) → put n ws' ≡ put_count f ws → (count_in_words n ws' ≡ f) × LaterKept (word_count n) ws ws'
  count-told (granted m) s n ws' p =
      let w = one_word m n ws' p in
      (ap (λ (k : ℕ). count_in_words k ws') w.0 ∙ ap granted w.1.0, subst (λ (k : ℕ). LaterKept (word_count k) ws ws') (sym w.0) w.1.1)
  count-told (turned_down zero) s n ws' p = absurd (s refl)
  count-told (turned_down (suc k)) s n ws' p = (ap (λ (z : Put). count_in_words z.number z.words) p, refusal-kept (suc k) n ws' p)

-- the count by the answer that it is in
pub count-answer : (f : Verdict ℕ) (ws : List ℕ) → put_count f ws ≡ put_answer (length_is f) ws
count-answer (granted m) ws = refl
count-answer (turned_down n) ws = refusal-put n ws
