-- Files round scales to halves, so writing and reading change an index whose scales are no halves. One that was read from halves keeps them as long as nothing is added: a
-- house that files from a read index may write it and read it again at any time.
use Rattle.std.specs.Prelude.{◌≡◌, Bool, true, false, List, map, ℕ, ◌≤◌}
use Rattle.std.proofs.Math.Option.{Option, none, some}
use Rattle.lists.specs.Keep.{Each}
use Rattle.half.specs.Binary.{NaN}
use Rattle.half.specs.Half.{widened}
use Rattle.codes.specs.Stage.{Stage}
use Rattle.encode.specs.Coded.{Code}
use Rattle.index.specs.Arrays.{Arrays}
use Rattle.index.specs.State.{State, live, header_of, capacity, state_of}
use Rattle.index.specs.Step as Step
use Rattle.index.specs.Step.{Op, bytes, rising}
use Rattle.index.specs.Call.{call}
use Rattle.index.specs.History.{HistoryOp, add, add_keyed, add_multi, relabel, remove, compact, score, search, search_keyed, key_of, contains, slot_of, file_length, write}
use Rattle.histories.specs.Histories.{History, accepted, Run, advance, after, told_in}
use Rattle.histories.specs.Houses.{House, opened, answers_to}
use Rattle.round_trip.specs.Back.{tidied_mark, saved, Typed, Opens}

-- ---- values that writing and reading leave as they are

-- what holds of the scale of each stage
abbrev pub ScaleIf : (ℕ → Type 0) → Option Stage → Type 0
ScaleIf P none = Unit
ScaleIf P (some g) = P g.scale

abbrev pub Scales : (ℕ → Type 0) → Code → Type 0
Scales P c = P c.first.scale × ScaleIf P c.second

-- the pattern is no NaN's
abbrev pub Number : (pattern : ℕ) → Type 0
Number x = NaN 23 8 x → ⊥

-- the pattern is what a half that is no NaN reads as
pub record OfHalf (x : ℕ) : Type 0 where
  pub half : ℕ
  pub number : NaN 10 5 half → ⊥
  pub reads : x ≡ widened half

pub record Storable (s : State) : Type 0 where
  pub cascade : s.cascade ≡ false
  pub all_live : Each (λ x. live x ≡ true) s.slots
  -- the word in `keys` of a slot without a key is 0
  pub words : Each (λ x. tidied_mark x.mark ≡ x.mark) s.slots
  pub scales : Each (λ x. Scales OfHalf x.code) s.slots
  pub held : rising (λ k. 0) s.slots ≡ s.slots

abbrev pub SavedAsItIs : Type 0
SavedAsItIs = (s : State) → Storable s → saved s ≡ s

-- ---- a house that has read a file

-- no scale of the file is a NaN
abbrev pub NumberedFile : (file : List ℕ) → Type 0
NumberedFile file = Each (λ l. Scales Number l.code) (told_in file).living

abbrev pub run_value : Run → State
run_value r = state_of r.index r.arrays

-- the run's index was written as these bytes
pub record WrittenAs (r : Run) (out : List ℕ) : Type 0 where
  pub typed : Typed r.index r.arrays
  pub places : ℕ
  pub answer : (call r.index r.arrays (Step.write places)).answer ≡ bytes out

-- Any arrays with room read the bytes that the run's index is written as, and then stand for this value.
abbrev pub Reopens : Run → State → Type 0
Reopens r s = (out : List ℕ) → WrittenAs r out → (b : Arrays) → r.index.live ≤ capacity (header_of r.index) b → Opens b out s

-- the index as it was read
abbrev pub StoredUnchanged : Type 0
StoredUnchanged = (file : List ℕ) → NumberedFile file → (p : House file) → Reopens (opened p) (run_value (opened p))

abbrev pub is_add : HistoryOp → Bool
is_add (add v y) = true
is_add (add_keyed j v y present) = true
is_add (add_multi j v y) = true
is_add (relabel j k) = false
is_add (remove j present) = false
is_add compact = false
is_add (score a q) = false
is_add (search q k places) = false
is_add (search_keyed q k places) = false
is_add (key_of a) = false
is_add (contains j) = false
is_add (slot_of j i) = false
is_add file_length = false
is_add (write places) = false

-- after a history that adds nothing: what a compaction leaves at that moment
abbrev pub StoredAtAnyTime : Type 0
StoredAtAnyTime =
    (file : List ℕ) → NumberedFile file → (p : House file) (h : History) → Each (λ op. is_add op ≡ false) h →
    Reopens (after (opened p) h) (run_value (advance (after (opened p) h) compact))

-- So whoever reads these bytes gets the answers to all further calls that a compaction in place of writing and reading leads to, slots by their numbers. (That a
-- compaction changes no answer by arrival is `SameAnswers`.)
abbrev pub SameAfterReading : Type 0
SameAfterReading =
    (file : List ℕ) → NumberedFile file → (p : House file) (h : History) → Each (λ op. is_add op ≡ false) h →
    (out : List ℕ) → WrittenAs (after (opened p) h) out → (q : House out) (ops : List Op) →
    let r = advance (after (opened p) h) compact in
    map accepted (answers_to q.index q.arrays ops) ≡ map accepted (answers_to r.index r.arrays ops) →
    answers_to q.index q.arrays ops ≡ answers_to r.index r.arrays ops
