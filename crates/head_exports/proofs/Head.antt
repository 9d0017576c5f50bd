-- What is answered of a head, by its refusal and the places.
use mathlib.Core.Path.{◌≡◌, ap, ◌∙◌}
use mathlib.Core.List.{List}
use Prim.Native.Nat.{ℕ, ◌≤◌, ◌<◌}
use native.Mathlib.Omega.{arith}
use lib.ListN.{length}
use borrow.Author.Tests.{ne_eqb}
use Rattle.lists.specs.Lists.{over}
use Rattle.refusal.specs.declared.Refusal.{Refusal}
use Rattle.refusal.specs.Refusal.{number_of}
use Rattle.refusal.proofs.Numbers.{above_0}
use Rattle.index.specs.Read.{head_fault}
use Rattle.words.specs.Put.{put}
use Rattle.words.proofs.Words.{words-short, words-put}
use Rattle.head_exports.specs.Head.{head_words, put_head}

module _ (file ws : List ℕ) where
  pub head-refused : (r : Refusal) → number_of r ≡ head_fault file → put (number_of r) ws ≡ put_head file ws
  unfolding put_head
  head-refused r e = rw (← e, ne_eqb (number_of r) 0 (λ z. omega (arith, above_0 r, z)))

  module _ (e : 0 ≡ head_fault file) where
    pub head-short : length ws < length (head_words file) → put 13 ws ≡ put_head file ws
    unfolding put_head
    head-short s = rw (← e) (words-short 0 (head_words file) ws s)

    pub head-put : length (head_words file) ≤ length ws → {after : List ℕ} → after ≡ over (head_words file) ws → put 0 after ≡ put_head file ws
    unfolding put_head
    head-put s w = rw (← e) (ap (put 0) w ∙ words-put 0 (head_words file) ws s)
