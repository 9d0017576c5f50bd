-- The call that writes: refused by the first test, by a file that is too short, or else the file of the value.
use mathlib.Core.Path.{◌≡◌, refl, sym, ap, ◌∙◌}
use mathlib.Core.Bool.{Bool, true, false}
use mathlib.Core.List.{List, ◌++◌}
use Prim.Native.Nat.{ℕ, ◌+◌, ◌≤◌, ◌<◌}
use native.Mathlib.Nat.{zero-add}
use native.Mathlib.Omega.{arith}
use lib.ListN.{length, drop}
use lib.Seq.{sets, sets-eq}
use lib.Dec.{ltb}
use borrow.Author.Tests.{lt-ltb, le-ltb}
use Rattle.lists.specs.Lists.{over}
use Rattle.index.specs.declared.Index.{Index}
use Rattle.index.specs.Verdict.{Verdict, granted, turned_down}
use Rattle.index.specs.Arrays.{Arrays}
use Rattle.index.specs.State.{header_of, state_of}
use Rattle.index.specs.Fit.{fit}
use Rattle.index.specs.File.{version_of}
use Rattle.index.specs.Step.{Answer, refused, size, bytes, file_length, write, live_from, file_bytes, answered, when, unless, step}
use Rattle.index.specs.Call.{Result, call}
use Rattle.index.specs.Answers.{result_of, how_many, wrote, LaterKept}
use Rattle.index.proofs.Calls.{call-misfit, call-answered}
use Rattle.index.proofs.Determined.{entries-there}
use Rattle.layout.proofs.Counting.{entries}
use Rattle.write.specs.Pieces.{file_pieces}
use Rattle.write.proofs.Pieces.{file-pieces}

module _ (x : Index) (a : Arrays) where
  abbrev file : List ℕ
  file = file_bytes (header_of x) (live_from 0 (state_of x a).slots)

  abbrev pieces : (version : ℕ) → List ℕ
  pieces v = file_pieces v (header_of x) a x.n

  abbrev version : ℕ
  version = version_of (header_of x) (entries (header_of x) a x.n)

  -- in the version of the index they are the file
  pieces_are : (v : ℕ) → v ≡ version → pieces v ≡ file
  unfolding state_of
  pieces_are v d = ap pieces d ∙ sym (file-pieces (header_of x) a x.n)

  -- ---- what the length tells

  length-answer : fit x a ≡ true → call x a file_length ≡ result_of x a (size (length file))
  unfolding step state_of
  length-answer e = call-answered x a file_length e (size (length file)) refl

  pub measured : (n : ℕ) → result_of x a (size n) ≡ call x a file_length → (fit x a ≡ true) × (n ≡ length file)
  measured n r = go (fit x a) refl
    where
      go : (b : Bool) → fit x a ≡ b → (b ≡ true) × (n ≡ length file)
      go true e = let f : size n ≡ size (length file) = ap (λ (z : Result). z.answer) (r ∙ length-answer e) in (refl, cc)
      go false e =
          let f : size n ≡ refused 13 = ap (λ (z : Result). z.answer) (r ∙ call-misfit x a file_length e) in
          absurd (let z : ◌≡◌ {A = ℕ} 0 1 = cc in omega arith)

  pub unmeasured : (k : ℕ) → result_of x a (refused k) ≡ call x a file_length → (fit x a ≡ false) × (k ≡ 13)
  unmeasured k r = go (fit x a) refl
    where
      go : (b : Bool) → fit x a ≡ b → (b ≡ false) × (k ≡ 13)
      go true e =
          let f : refused k ≡ size (length file) = ap (λ (z : Result). z.answer) (r ∙ length-answer e) in
          absurd (let z : ◌≡◌ {A = ℕ} 0 1 = cc in omega arith)
      go false e = let f : refused k ≡ refused 13 = ap (λ (z : Result). z.answer) (r ∙ call-misfit x a file_length e) in (refl, cc)

  -- ---- the three ends

  module _ (old : List ℕ) where
    -- what the call leaves: its answer, and the later places of the file
    abbrev Leaves : Verdict ℕ → (next : List ℕ) → Type 0
    Leaves r next = (result_of x a (wrote r next) ≡ call x a (write (length old))) × LaterKept (how_many r) old next

    pub write-misfit : (k : ℕ) → fit x a ≡ false → k ≡ 13 → Leaves (turned_down k) old
    write-misfit k e f = (ap (λ (n : ℕ). result_of x a (refused n)) f ∙ sym (call-misfit x a (write (length old)) e), refl)

    module _ (e : fit x a ≡ true) where
      answer : (r : Answer) → unless (when (ltb (length old) (length file)) 13) (bytes file) ≡ r → result_of x a r ≡ call x a (write (length old))
      unfolding step state_of
      answer r f = sym (call-answered x a (write (length old)) e r (ap (answered (state_of x a)) f))

      pub write-short : (n : ℕ) → n ≡ length file → length old < n → Leaves (turned_down 13) old
      write-short n f l = (answer (refused 13) (rw (lt-ltb (length old) (length file) (omega arith))), refl)

      pub write_done : (v n : ℕ) (new : List ℕ) → v ≡ version → n ≡ length file → n ≤ length old
          → new ≡ sets old 0 (pieces v) → Leaves (granted n) new
      unfolding state_of over
      write_done v n new d f l p =
          let first = entries-there file old n new f there in
          (ap (λ (bs : List ℕ). result_of x a (bytes bs)) first.0 ∙ answer (bytes file) (rw (le-ltb (length old) (length file) (omega arith))), first.1)
        where
          there : new ≡ over file old
          there =
              p ∙ ap (sets old 0) (pieces_are v d) ∙ sets-eq file old 0 (omega (arith, f))
              ∙ ap (λ (k : ℕ). file ++ drop k old) (zero-add (length file))

  pub file-room : (v n m : ℕ) → v ≡ version → n ≡ length file → n ≤ m → 0 + length (pieces v) ≤ m
  file-room v n m d f l = omega (arith, f, ap length (pieces_are v d))
