-- Record and slot over the first places of lent slices.
use Rattle.std.specs.Bool.{◌==◌}
use Rattle.std.proofs.lemmas.Grind.{common_steps}
use native.Mathlib.Omega.{arith}
use mathlib.Core.Path.{◌≡◌, sym, ap, ◌∙◌}
use mathlib.Core.Bool.{false, ◌||◌}
use mathlib.Core.List.{List, [], ◌∷◌}
use Prim.Native.Nat.{ℕ, ◌≤◌, ◌<◌}
use lib.ListN.{length}
use lib.Dec.{ltb}
use borrow.Author.Tests.{ltb-false}
use Rattle.lists.specs.Lists.{over}
use Rattle.index.specs.declared.Index.{Index}
use Rattle.index.proofs.Read.{or-none}
use Rattle.words.specs.Words.{record_words, words_of}
use Rattle.words.specs.Put.{put, put_words, put_both, put_next}
use Rattle.words.proofs.Words.{words-short, words-put}

-- the eight words of a record
module _ (x : Index) (fs : List ℕ) where
  pub record-short : length fs < record_words → put 13 fs ≡ put_words 0 (words_of x) fs
  unfolding words_of
  record-short h = words-short 0 (words_of x) fs h

  pub record-put : record_words ≤ length fs → {after : List ℕ} → after ≡ over (words_of x) fs → put 0 after ≡ put_words 0 (words_of x) fs
  unfolding words_of
  record-put h e = ap (put 0) e ∙ words-put 0 (words_of x) fs h

-- a slice without places has fewer than one
pub none-few : (ws : List ℕ) → (length ws == 0) ≡ ltb (length ws) 1
none-few ws = grind (arith, common_steps)

-- record and answer
module _ (m : ℕ) (x : Index) (fs ws : List ℕ) where
  pub both-put : (ltb (length fs) record_words || ltb (length ws) 1) ≡ false → (fs' : List ℕ) → fs' ≡ over (words_of x) fs →
      (n : ℕ) (ws' : List ℕ) → put n ws' ≡ put_words 0 (m ∷ []) ws → put_both n fs' ws' ≡ put_next x (m ∷ []) fs ws
  both-put h fs' e n ws' p =
      let place = ltb-false (length ws) 1 (or-none (ltb (length fs) record_words) (ltb (length ws) 1) h).1 in
      let q = p ∙ sym (words-put 0 (m ∷ []) ws place) in
      rw h (λ j. put_both (q j).number (e j) (q j).words)
