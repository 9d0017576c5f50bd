-- What the calls for C leave, by the record that the words `fields` say: 13 and every lent slice as it was where they say none, else what the call itself leaves, with the words of
-- its record and its answer over the first places of `fields` and `answer`.
use Rattle.std.specs.Prelude.{cond, List, [], ℕ, zero, suc, get_or, eqb}
use Rattle.lists.specs.Lists.{over}
use Rattle.index.specs.declared.Index.{Index}
use Rattle.index.specs.Verdict.{Verdict, granted, turned_down}
use Rattle.index.specs.Arrays.{Arrays}
use Rattle.index.specs.Step.{Op, Answer, refused}
use Rattle.index.specs.Call.{Result, call}
use Rattle.index.specs.Make.{Begun}
use Rattle.std.specs.Prelude.{Some, None}
use Rattle.words.specs.Words.{Record, words_of, record_beside}
use Rattle.words.specs.Put.{in_words, put_made}

-- The number of this set of raw signatures. Whoever changes one raises it, since a stale declaration of twenty arguments still links.
abbrev pub abi : ℕ
abi = 3

abbrev pub by_record : {A : Type 0} → Record → (misfit : A) → (Index → A) → A
by_record None m f = m
by_record (Some x) m f = f x

-- ---- calls whose answer is in words alone

-- the number, the words of record and answer, and the arrays
pub record Left : Type 0 where
  pub number : ℕ
  pub fields : List ℕ
  pub answer : List ℕ
  pub arrays : Arrays

abbrev pub left : (number : ℕ) → (fields answer : List ℕ) → Arrays → Left
left n fs ws a = record { number = n; fields = fs; answer = ws; arrays = a }

-- A question, a no and a refusal leave the record that `fields` said, so its words stay as they were (law `written-again`); a refusal has no word.
abbrev pub leaves : Result → (fields answer : List ℕ) → Left
leaves r fs ws =
    let t = in_words r.answer in
    left t.number (over (words_of r.index) fs) (over t.words ws) r.arrays

-- `places` is how many words the call answers at most; one that answers none (a width call, enabling the cascade, compaction) is lent no slice for them, which is [] here
unfoldable pub left_by : (places : ℕ) → Op → (fields answer : List ℕ) → Arrays → Left
left_by p op fs ws a = by_record (record_beside p fs ws) (left 13 fs ws a) (λ x. leaves (call x a op) fs ws)

-- Making and reading: they have no record to read, and their own tests come before the places for the record. Where they are refused no array is written.
unfoldable pub begins : Begun → (fields : List ℕ) → Arrays → Left
begins b fs a =
    let p = put_made b.answer fs in
    left p.number p.words [] (cond (eqb p.number 0) b.arrays a)

-- ---- searches and writing: they change no record, and their answer is in the number, the first word of `answer` and the lent slices

-- what number and word say: 0 and how many, or a refusal
abbrev pub count_in_words : (number : ℕ) → (answer : List ℕ) → Verdict ℕ
count_in_words zero ws = granted (get_or ws 0 0)
count_in_words (suc n) ws = turned_down (suc n)

-- how many words are written: one, or none for a refusal
abbrev pub word_count : (number : ℕ) → ℕ
word_count zero = 1
word_count (suc n) = 0

-- the answer of the call on the record beside an answer; 13 where there is none
unfoldable pub answer_beside : Op → Arrays → (fields answer : List ℕ) → Answer
answer_beside op a fs ws = by_record (record_beside 1 fs ws) (refused 13) (λ x. (call x a op).answer)
