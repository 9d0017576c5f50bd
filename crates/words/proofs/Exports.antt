-- What the calls for C leave, from what the calls leave and what is written of their answers.
use mathlib.Core.Path.{◌≡◌, refl, sym, ap, subst, ◌∙◌}
use mathlib.Core.Bool.{true, cond}
use mathlib.Core.List.{List, [], ◌∷◌}
use Prim.Native.Nat.{ℕ, zero, suc, ◌≤◌, ◌<◌}
use native.Mathlib.Omega.{arith}
use lib.Dec.{eqb}
use lib.ListN.{length}
use lib.Ieee.{Float}
use borrow.Author.Tests.{le-ltb, ne_eqb}
use Rattle.lists.specs.Lists.{over}
use Rattle.encode.specs.declared.Header.{Header}
use Rattle.score.specs.declared.Scored.{Scored}
use Rattle.index.specs.declared.Index.{Index}
use Rattle.index.specs.Verdict.{Verdict, granted, turned_down}
use Rattle.index.specs.declared.Added.{Added}
use Rattle.index.specs.Arrays.{Arrays, unmarked}
use Rattle.index.specs.State.{record_of, overlay}
use Rattle.index.specs.Step.{first_of, Op, Answer, refused, flag, slot}
use Rattle.index.specs.Call.{Result, call}
use Rattle.index.specs.Answers.{result_of, made, added, changed, asked, key_is, held_is, scored, length_is, how_many, wrote, LaterKept}
use Rattle.index.proofs.Refusals.{never-0}
use Rattle.index.specs.Make.{Begun, begun, make, begun_unless, empty, make_refusal}
use Rattle.index.specs.Read.{state_in, read_refusal, read_into, slots_in}
use Rattle.std.specs.Prelude.{Bool, true, false, Option, Some, None}
use Rattle.words.specs.Words.{Record, record_words, words_of, record_in, record_beside}
use Rattle.words.specs.Put.{Put, put, in_words, put_answer, put_made, put_count, PutBoth, put_both, put_next, put_added, put_changed}
use Rattle.words.specs.Exports.{by_record, left, leaves, left_by, begins, count_in_words, word_count, answer_beside}
use Rattle.words.proofs.Records.{eight, beside, written-again}
use Rattle.words.proofs.Words.{words-short, words-put, count-told}

-- by the record that a call for C read
by-misfit : {A : Type 0} (r : Record) (m : A) (f : Index → A) → r ≡ None → m ≡ by_record r m f
by-misfit r m f e = ap (λ (s : Record). by_record s m f) (sym e)

by-fields : {A : Type 0} (r : Record) (x : Index) (m : A) (f : Index → A) → r ≡ Some x → f x ≡ by_record r m f
by-fields r x m f e = ap (λ (s : Record). by_record s m f) (sym e)

-- ---- calls whose answer is in words alone

module _ (places : ℕ) (fs ws : List ℕ) (r : Record) (e : r ≡ record_beside places fs ws) where
  pub misfit-left : (op : Op) (a : Arrays) → r ≡ None → left 13 fs ws a ≡ left_by places op fs ws a
  unfolding left_by
  misfit-left op a m = by-misfit _ _ _ (sym e ∙ m)

  module _ (x : Index) (is : r ≡ Some x) where
    room : (places ≤ length ws) × (Some x ≡ record_in fs)
    room = beside fs places ws x (sym is ∙ e)

    -- the words of the record that was read
    kept : fs ≡ over (words_of x) fs
    kept = written-again fs x room.1

    refusal-left : (n : ℕ) (b : Arrays) → left n fs ws b ≡ leaves (result_of x b (refused n)) fs ws
    unfolding over
    refusal-left n b = λ i. left n (kept i) ws b

    by_call : (op : Op) (a : Arrays) (o : Result) → o ≡ call x a op → leaves o fs ws ≡ left_by places op fs ws a
    unfolding left_by
    by_call op a o g = ap (λ (y : Result). leaves y fs ws) g ∙ by-fields _ x _ _ (sym e ∙ is)

    -- questions
    pub told-left : (op : Op) (a : Arrays) (t : Answer) → result_of x a t ≡ call x a op → length (in_words t).words ≤ places → (n : ℕ) (ws' : List ℕ) → put n ws' ≡ put_answer t ws →
        left n fs ws' a ≡ left_by places op fs ws a
    told-left op a t g h n ws' p =
        let q = p ∙ sym (words-put (in_words t).number (in_words t).words ws (omega (arith, room.0, h))) in
        (λ i. left (q i).number (kept i) (q i).words a) ∙ by_call op a (result_of x a t) g

-- how many words a question answers at most
pub asked-words : (t : Verdict Bool) → length (in_words (asked t)).words ≤ 1
asked-words (granted true) = omega arith
asked-words (granted false) = omega arith
asked-words (turned_down n) = omega arith

pub keyed-words : (t : Verdict (Option ℕ)) → length (in_words (key_is t)).words ≤ 2
keyed-words (granted (Some k)) = omega arith
keyed-words (granted None) = omega arith
keyed-words (turned_down n) = omega arith

pub held-words : (t : Verdict (Option ℕ)) → length (in_words (held_is t)).words ≤ 2
held-words (granted (Some i)) = omega arith
held-words (granted None) = omega arith
held-words (turned_down n) = omega arith

pub scored-words : (t : Scored) → length (in_words (scored t)).words ≤ 1
scored-words (Scored.Score x) = omega arith
scored-words (Scored.Refused n) = omega arith

pub length-words : (t : Verdict ℕ) → length (in_words (length_is t)).words ≤ 1
length-words (granted n) = omega arith
length-words (turned_down n) = omega arith

-- ---- a word beside the record

module _ (fs ws : List ℕ) (r : Record) (e : r ≡ record_beside 1 fs ws) where
  pub no_record : (op : Op) (a : Arrays) → r ≡ None → refused 13 ≡ answer_beside op a fs ws
  unfolding answer_beside
  no_record op a m = by-misfit _ _ _ (sym e ∙ m)

  module _ (x : Index) (is : r ≡ Some x) where
    place : 1 ≤ length ws
    place = (room 1 fs ws r e x is).0

    next-left : (y : Index) (m : ℕ) (t : Answer) → in_words t ≡ put 0 (m ∷ []) → (b : Arrays) →
        left (put_next y (m ∷ []) fs ws).number (put_next y (m ∷ []) fs ws).fields (put_next y (m ∷ []) fs ws).answer b ≡ leaves (result_of y b t) fs ws
    next-left y m t is' b = rw (le-ltb (length fs) record_words (eight fs x (room 1 fs ws r e x is).1), le-ltb (length ws) 1 place) (ap (λ (q : Put). left q.number (over (words_of y) fs) (over q.words ws) b) (sym is'))

    module _ (op : Op) (a b : Arrays) where
      -- what is left of both slices is what the call leaves
      by_both : (o : Result) → o ≡ call x a op → (q : PutBoth) → left q.number q.fields q.answer b ≡ leaves o fs ws → (n : ℕ) (fs' ws' : List ℕ) → put_both n fs' ws' ≡ q →
          left n fs' ws' b ≡ left_by 1 op fs ws a
      by_both o g q l n fs' ws' p = ap (λ (z : PutBoth). left z.number z.fields z.answer b) p ∙ l ∙ by_call 1 fs ws r e x is op a o g

      pub added-left : (d : Verdict Added) → added x d b ≡ call x a op → (n : ℕ) (fs' ws' : List ℕ) → put_both n fs' ws' ≡ put_added d fs ws → left n fs' ws' b ≡ left_by 1 op fs ws a
      added-left (granted y) g = by_both _ g _ (next-left y.index y.slot (slot y.slot) refl b)
      added-left (turned_down k) g = by_both _ g _ (refusal-left 1 fs ws r e x is k b)

      pub changed-left : (d : Verdict (Option Index)) → changed x d b ≡ call x a op → (n : ℕ) (fs' ws' : List ℕ) → put_both n fs' ws' ≡ put_changed d fs ws → left n fs' ws' b ≡ left_by 1 op fs ws a
      changed-left (granted (Some y)) g = by_both _ g _ (next-left y 1 (flag true) refl b)
      changed-left (granted None) g =
          by_both _ g _ (λ i. left (sym (words-put 0 (0 ∷ []) ws place) i).number (kept 1 fs ws r e x is i) (sym (words-put 0 (0 ∷ []) ws place) i).words b)
      changed-left (turned_down k) g = by_both _ g _ (refusal-left 1 fs ws r e x is k b)

    -- of a call that leaves the index as it is
    module _ (op : Op) (a b : Arrays) where
      by_answer : (t : Answer) → result_of x b t ≡ call x a op → t ≡ answer_beside op a fs ws
      unfolding answer_beside
      by_answer t g = ap (λ (o : Result). o.answer) g ∙ by-fields _ x _ _ (sym e ∙ is)

      not-0 : (t : Answer) → result_of x b t ≡ call x a op → t ≡ refused 0 → ⊥
      not-0 t g h = never-0 x a op (sym (ap (λ (o : Result). o.answer) g) ∙ h)

      -- `tell` is `found` or `found_keyed`
      pub list_done : (tell : Verdict ℕ → List ℕ → List Float → Answer) → ((n : ℕ) (ns : List ℕ) (ss : List Float) → tell (turned_down n) ns ss ≡ refused n) →
          (f : Verdict ℕ) (ns ms : List ℕ) (ss ts : List Float) →
          (result_of x b (tell f ms ts) ≡ call x a op) × (LaterKept (how_many f) ns ms × LaterKept (how_many f) ss ts) →
          (n : ℕ) (ws' : List ℕ) → put n ws' ≡ put_count f ws →
          (tell (count_in_words n ws') ms ts ≡ answer_beside op a fs ws)
          × (LaterKept (word_count n) ws ws' × (LaterKept (how_many (count_in_words n ws')) ns ms × LaterKept (how_many (count_in_words n ws')) ss ts))
      list_done tell of f ns ms ss ts g n ws' p =
          let some : f ≡ turned_down 0 → ⊥ = λ h. not-0 (tell f ms ts) g.0 (ap (λ (k : Verdict ℕ). tell k ms ts) h ∙ of 0 ms ts) in
          let told = count-told ws (place) f some n ws' p in
          subst (λ (k : Verdict ℕ). (tell k ms ts ≡ answer_beside op a fs ws) × (LaterKept (word_count n) ws ws' × (LaterKept (how_many k) ns ms × LaterKept (how_many k) ss ts)))
          (sym told.0) (by_answer (tell f ms ts) g.0, (told.1, g.1))

      pub write_done : (f : Verdict ℕ) (file next : List ℕ) → (result_of x b (wrote f next) ≡ call x a op) × LaterKept (how_many f) file next →
          (n : ℕ) (ws' : List ℕ) → put n ws' ≡ put_count f ws →
          (wrote (count_in_words n ws') next ≡ answer_beside op a fs ws) × (LaterKept (word_count n) ws ws' × LaterKept (how_many (count_in_words n ws')) file next)
      write_done f file next g n ws' p =
          let some : f ≡ turned_down 0 → ⊥ = λ h. not-0 (wrote f next) g.0 (ap (λ (k : Verdict ℕ). wrote k next) h) in
          let told = count-told ws (place) f some n ws' p in
          subst (λ (k : Verdict ℕ). (wrote k next ≡ answer_beside op a fs ws) × (LaterKept (word_count n) ws ws' × LaterKept (how_many k) file next))
          (sym told.0) (by_answer (wrote f next) g.0, (told.1, g.1))

-- ---- the record alone

-- what is written of a record that has places
record-put : (fs : List ℕ) → record_words ≤ length fs → (y : Index) → put 0 (over (words_of y) fs) ≡ put_made (granted y) fs
unfolding words_of
record-put fs h y = words-put 0 (words_of y) fs h

-- no place is asked for
beside_none : (fs : List ℕ) → record_in fs ≡ record_beside 0 fs []
unfolding record_beside
beside_none fs = refl

module _ (fs : List ℕ) (r : Record) (e : r ≡ record_in fs) (op : Op) (a : Arrays) where
  pub unread-left : r ≡ None → left 13 fs [] a ≡ left_by 0 op fs [] a
  unread-left = misfit-left 0 fs [] r (e ∙ beside_none fs) op a

  module _ (x : Index) (is : r ≡ Some x) (b : Arrays) where
    by-record : (o : Result) → o ≡ call x a op → (q : Put) → left q.number q.words [] b ≡ leaves o fs [] → (n : ℕ) (fs' : List ℕ) → put n fs' ≡ q →
        left n fs' [] b ≡ left_by 0 op fs [] a
    by-record o g q l n fs' p = ap (λ (z : Put). left z.number z.words [] b) p ∙ l ∙ by_call 0 fs [] r (e ∙ beside_none fs) x is op a o g

    pub made-left : (d : Verdict Index) → made x d b ≡ call x a op → (n : ℕ) (fs' : List ℕ) → put n fs' ≡ put_made d fs → left n fs' [] b ≡ left_by 0 op fs [] a
    unfolding over
    made-left (granted y) g = by-record _ g _ (ap (λ (q : Put). left q.number q.words [] b) (sym (record-put fs (eight fs x (sym is ∙ e)) y)))
    made-left (turned_down k) g = by-record _ g _ (refusal-left 0 fs [] r (e ∙ beside_none fs) x is k b)

-- of what making or reading would begin, x in the arrays b, unless it is refused
module _ (x : Index) (a b : Arrays) (fs : List ℕ) where
  abbrev words_after : (refusal : ℕ) → Put
  words_after m = put_made (begun_unless m x a b).answer fs

  -- without places for the record
  begun-short : length fs < record_words → (m n : ℕ) → n ≡ first_of (m ∷ 13 ∷ []) → left n fs [] a ≡ begins (begun_unless m x a b) fs a
  unfolding begins first_of words_of
  begun-short h m n e = ap (λ (k : ℕ). left k fs [] a) e ∙ go m
    where
      go : (m : ℕ) → left (first_of (m ∷ 13 ∷ [])) fs [] a ≡ begins (begun_unless m x a b) fs a
      go zero = ap (λ (q : Put). left q.number q.words [] (cond (eqb q.number 0) b a)) (words-short 0 (words_of x) fs h)
      go (suc m) = rw (ne_eqb (suc m) 0 (λ q. omega (arith, q)))

  -- with them
  begun-done : record_words ≤ length fs → (m : ℕ) (d : Verdict Index) (c : Arrays) → begun d c ≡ begun_unless m x a b →
      (n : ℕ) (fs' : List ℕ) → put n fs' ≡ put_made d fs → left n fs' [] c ≡ begins (begun_unless m x a b) fs a
  unfolding begins words_of
  begun-done h m d c g n fs' p =
      ap (λ (q : Put). left q.number q.words [] c) p ∙ ap (λ (y : Begun). left (put_made y.answer fs).number (put_made y.answer fs).words [] y.arrays) g
      ∙ go m
    where
      go : (m : ℕ) → left (words_after m).number (words_after m).words [] (begun_unless m x a b).arrays ≡ begins (begun_unless m x a b) fs a
      go zero =
          subst (λ (q : Put). left q.number q.words [] b ≡ left q.number q.words [] (cond (eqb q.number 0) b a)) (words-put 0 (words_of x) fs h) refl
      go (suc m) = rw (ne_eqb (suc m) 0 (λ q. omega (arith, q)))

-- ---- making and reading

pub make-short : (h : Header) (a : Arrays) (fs : List ℕ) → length fs < record_words →
    (n : ℕ) → n ≡ first_of (make_refusal h a ∷ 13 ∷ []) → left n fs [] a ≡ begins (make h a) fs a
unfolding make
make-short h a fs l = begun-short (record_of (empty h)) a (unmarked a) fs l (make_refusal h a)

pub make-done : (h : Header) (a : Arrays) (fs : List ℕ) → record_words ≤ length fs → (d : Verdict Index) (c : Arrays) → begun d c ≡ make h a →
    (n : ℕ) (fs' : List ℕ) → put n fs' ≡ put_made d fs → left n fs' [] c ≡ begins (make h a) fs a
unfolding make
make-done h a fs l = begun-done (record_of (empty h)) a (unmarked a) fs l (make_refusal h a)

pub read_short : (file fs : List ℕ) (a : Arrays) → length fs < record_words →
    (n : ℕ) → n ≡ first_of (read_refusal file a ∷ 13 ∷ []) → left n fs [] a ≡ begins (read_into a file) fs a
unfolding read_into
read_short file fs a l = begun-short (record_of (state_in file)) a (overlay (unmarked a) (slots_in file)) fs l (read_refusal file a)

pub read_done : (file fs : List ℕ) (a : Arrays) → record_words ≤ length fs → (d : Verdict Index) (c : Arrays) → begun d c ≡ read_into a file →
    (n : ℕ) (fs' : List ℕ) → put n fs' ≡ put_made d fs → left n fs' [] c ≡ begins (read_into a file) fs a
unfolding read_into
read_done file fs a l = begun-done (record_of (state_in file)) a (overlay (unmarked a) (slots_in file)) fs l (read_refusal file a)
