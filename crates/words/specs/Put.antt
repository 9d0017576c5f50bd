-- The answers of calls as a number, 0 where the call is accepted, and words over the first places of lent slices. A refusal is its number, and no word is written.
use Rattle.std.specs.Prelude.{cond, ◌||◌, List, [], ◌∷◌, ℕ, length, ltb, Some, None, Result, Ok, Err, ◌≡◌}
use Rattle.std.specs.Prelude as Std
use Rattle.std.proofs.Math.Option.{Option, none, some}
use Rattle.std.specs.Float.{binary32}
use Rattle.std.specs.Float.Ieee.{to_bits}
use Rattle.lists.specs.Lists.{over}
use Rattle.lists.specs.Keep.{bit}
use Rattle.index.specs.declared.Index.{Index}
use Rattle.index.specs.Verdict.{Verdict, granted, turned_down}
use Rattle.index.specs.declared.Added.{Added}
use Rattle.index.specs.Step.{Answer, refused, done, flag, slot, maybe_slot, maybe_key, score_is, hits, key_hits, size, bytes}
use Rattle.words.specs.Words.{record_words, words_of}

-- a number and words: an answer's, or the lent words after it
pub record Put : Type 0 where
  pub number : ℕ
  pub words : List ℕ

abbrev pub put : (number : ℕ) → (words : List ℕ) → Put
put n ws = record { number = n; words = ws }

-- ---- an answer in words: a yes is 1 and a no 0, a slot or key that may be none is 1 and itself or 0, a score is its pattern

abbrev pub maybe_words : Option ℕ → List ℕ
maybe_words none = 0 ∷ []
maybe_words (some m) = 1 ∷ m ∷ []

-- of hits and of bytes how many there are: they themselves go to lent slices of their own
abbrev pub in_words : Answer → Put
in_words (refused n) = put n []
in_words done = put 0 []
in_words (flag b) = put 0 (bit b ∷ [])
in_words (slot i) = put 0 (i ∷ [])
in_words (maybe_slot i) = put 0 (maybe_words i)
in_words (maybe_key k) = put 0 (maybe_words k)
in_words (score_is x) = put 0 (to_bits binary32 x ∷ [])
in_words (hits xs) = put 0 (length xs ∷ [])
in_words (key_hits xs) = put 0 (length xs ∷ [])
in_words (size n) = put 0 (n ∷ [])
in_words (bytes bs) = put 0 (length bs ∷ [])

-- ---- an answer put in words

-- What is put of an answer whose refusal is of any type that gives a number: what `says` has for its verdict, a refusal by the number that it gives.
unfoldable pub Puts : {A R P : Type 0} (gives : R → (number : ℕ) → Type 0) → Result A R → (says : Verdict A → P) → (left : P) → Type 0
Puts gives (Ok x) says p = p ≡ says (granted x)
Puts gives (Err r) says p = (n : ℕ) × gives r n × (p ≡ says (turned_down n))

-- ---- words over lent ones: 13 and nothing written where there are too few places

unfoldable pub put_words : (number : ℕ) → (new words : List ℕ) → Put
put_words n new ws = cond (ltb (length ws) (length new)) (put 13 ws) (put n (over new ws))

-- the words of an answer
abbrev pub put_answer : Answer → (answer : List ℕ) → Put
put_answer t ws = put_words (in_words t).number (in_words t).words ws

-- the words of the record
abbrev pub put_made : Verdict Index → (fields : List ℕ) → Put
put_made (granted x) fs = put_words 0 (words_of x) fs
put_made (turned_down n) fs = put n fs

-- how many hits, or bytes
abbrev pub put_count : Verdict ℕ → (answer : List ℕ) → Put
put_count (granted m) ws = put_words 0 (m ∷ []) ws
put_count (turned_down n) ws = put n ws

-- ---- the same of two slices: the words of the record, and those of the answer

pub record PutBoth : Type 0 where
  pub number : ℕ
  pub fields : List ℕ
  pub answer : List ℕ

abbrev pub put_both : (number : ℕ) → (fields answer : List ℕ) → PutBoth
put_both n fs ws = record { number = n; fields = fs; answer = ws }

abbrev pub put_next : Index → (new : List ℕ) → (fields answer : List ℕ) → PutBoth
put_next x new fs ws =
    cond (ltb (length fs) record_words || ltb (length ws) (length new)) (put_both 13 fs ws) (put_both 0 (over (words_of x) fs) (over new ws))

-- the slot
abbrev pub put_added : Verdict Added → (fields answer : List ℕ) → PutBoth
put_added (granted y) fs ws = put_next y.index (y.slot ∷ []) fs ws
put_added (turned_down n) fs ws = put_both n fs ws

-- yes, or no, which hands back no record
abbrev pub put_changed : Verdict (Std.Option Index) → (fields answer : List ℕ) → PutBoth
put_changed (granted (Some x)) fs ws = put_next x (1 ∷ []) fs ws
put_changed (granted None) fs ws =
    let p = put_words 0 (0 ∷ []) ws in
    put_both p.number fs p.words
put_changed (turned_down n) fs ws = put_both n fs ws
