-- Document 02, Req 02: "Show that, marks past the slots in use aside, each call gives what it gave with one mark per slot and 64 marks to a word, wherever no bit is set at or
-- above the slots in use. Every accepted call, compaction too, leaves 0 in all bits at or above the slots in use." Laws of proofs/LiveBits.antt. `alive` of arrays is the
-- list of marks, one a slot, that `lent` (Arrays.antt) reads out of the words; a mark of it at or above the slots in use is a bit there, in any lent word.
use Rattle.std.specs.Prelude.{◌≡◌, true, cond, List, ℕ, take}
use Rattle.encode.specs.declared.Header.{Header}
use Rattle.index.specs.declared.Index.{Index}
use Rattle.index.specs.Verdict.{Verdict, granted, turned_down}
use Rattle.index.specs.Arrays.{Arrays}
use Rattle.index.specs.State.{header_of, capacity, state_of, record_of, overlay}
use Rattle.index.specs.Fit.{fit_by_mark, none_from}
use Rattle.index.specs.Step.{Op, accepted, refused, step}
use Rattle.index.specs.Call.{Result, call}
use Rattle.index.specs.Answers.{result_of}
use Rattle.index.specs.Make.{empty, Begun, begun, begun_unless, make_refusal, make}
use Rattle.index.specs.Read.{state_in, slots_in, read_refusal, read_into}

-- ---- what each call gave with one mark a slot: 13 had no look at marks past the slots in use, and every call kept them

unfoldable pub call_by_mark : Index → Arrays → Op → Result
call_by_mark x a op =
    let o = step (capacity (header_of x) a) (state_of x a) op in
    cond (fit_by_mark x a) (result_of (record_of o.state) (overlay a o.state.slots) o.answer) (result_of x a (refused 13))

unfoldable pub make_by_mark : Header → Arrays → Begun
make_by_mark h a = begun_unless (make_refusal h a) (record_of (empty h)) a a

unfoldable pub read_by_mark : Arrays → (file : List ℕ) → Begun
read_by_mark a file = begun_unless (read_refusal file a) (record_of (state_in file)) a (overlay a (slots_in file))

-- ---- the same, "marks past the slots in use aside"

pub record SameArrays (n : ℕ) (a b : Arrays) : Type 0 where
  pub codes : a.codes ≡ b.codes
  pub scales : a.scales ≡ b.scales
  pub keys : a.keys ≡ b.keys
  pub keyed : a.keyed ≡ b.keyed
  pub held : a.held ≡ b.held
  pub alive : take n a.alive ≡ take n b.alive
  pub codes2 : a.codes2 ≡ b.codes2
  pub scales2 : a.scales2 ≡ b.scales2
  pub years : a.years ≡ b.years

pub record SameResult (r s : Result) : Type 0 where
  pub answer : r.answer ≡ s.answer
  pub index : r.index ≡ s.index
  pub arrays : SameArrays r.index.n r.arrays s.arrays

-- of making and reading: the index that is granted says how many slots are in use; where it is turned down, no array changes
abbrev pub same_after : Verdict Index → (a b : Arrays) → Type 0
same_after (granted x) a b = SameArrays x.n a b
same_after (turned_down n) a b = a ≡ b

pub record SameBegun (r s : Begun) : Type 0 where
  pub answer : r.answer ≡ s.answer
  pub arrays : same_after r.answer r.arrays s.arrays

pub record AsWithOneMark : Type 0 where
  -- every call on an index: answer, record, the other arrays, and the marks of the slots in use
  pub calls : (x : Index) (a : Arrays) (op : Op) → none_from x.n a.alive ≡ true → SameResult (call x a op) (call_by_mark x a op)
  -- making and reading, which turn no bit down
  pub makings : (h : Header) (a : Arrays) → SameBegun (make h a) (make_by_mark h a)
  pub readings : (a : Arrays) (file : List ℕ) → SameBegun (read_into a file) (read_by_mark a file)

-- ---- "leaves 0 in all bits at or above the slots in use"

pub record NoneSetPast : Type 0 where
  pub calls : (x : Index) (a : Arrays) (op : Op) → accepted (call x a op).answer ≡ true → none_from (call x a op).index.n (call x a op).arrays.alive ≡ true
  pub makings : (h : Header) (a : Arrays) (x : Index) (b : Arrays) → make h a ≡ begun (granted x) b → none_from x.n b.alive ≡ true
  pub readings : (a : Arrays) (file : List ℕ) (x : Index) (b : Arrays) → read_into a file ≡ begun (granted x) b → none_from x.n b.alive ≡ true
