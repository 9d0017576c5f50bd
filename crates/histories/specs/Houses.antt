-- The Joint level: "a second supplier loads the same bytes, and both houses file one list". Each house reads the bytes into arrays of its own, of whatever size and
-- whatever they held, and goes on from there.
use Rattle.std.specs.Prelude.{◌≡◌, List, [], ◌∷◌, map, ℕ, ◌≤◌}
use Rattle.index.specs.declared.Index.{Index}
use Rattle.index.specs.Verdict.{granted}
use Rattle.index.specs.Arrays.{Arrays}
use Rattle.index.specs.State.{capacity}
use Rattle.index.specs.Step.{Op, Answer, accepted}
use Rattle.index.specs.Call.{call}
use Rattle.index.specs.Make.{begun}
use Rattle.index.specs.Read.{count_in, header_in, read_into}
use Rattle.histories.specs.Histories.{History, Run, Moment, accepts, answer, LeaveAlike, Paired, others, struck, begin, Legal, PartsFull}

-- a house that has read the file: the arrays that it lent, and what the accepted reading handed back and left
pub record House (file : List ℕ) : Type 0 where
  pub lent : Arrays
  pub index : Index
  pub arrays : Arrays
  pub read : read_into lent file ≡ begun (granted index) arrays

abbrev pub opened : {file : List ℕ} → House file → Run
opened p = begin p.index p.arrays

-- Arrays with room for the count of the file answer it alike: the same refusal number, or the same record.
abbrev pub SameReading : Type 0
SameReading =
    (file : List ℕ) (b₁ b₂ : Arrays) → count_in file ≤ capacity (header_in file) b₁ → count_in file ≤ capacity (header_in file) b₂ →
    (read_into b₁ file).answer ≡ (read_into b₂ file).answer

-- ---- histories, slots read by arrival

-- what two lists of calls, the same but for compactions, come to in the two houses
pub record FiledAlike (ms ns : List Moment) : Type 0 where
  -- where they first part in acceptance, one house ran out of room
  pub parting : PartsFull ms ns
  -- where they never do, each call gives the same answer, and leaves the same in slices that held the same
  pub answers : map accepts ms ≡ map accepts ns → map answer ms ≡ map answer ns
  pub leavings : map accepts ms ≡ map accepts ns → Paired LeaveAlike ms ns

abbrev pub SameInBothHouses : Type 0
SameInBothHouses =
    (file : List ℕ) (p q : House file) (h₁ h₂ : History) → Legal (opened p) h₁ → Legal (opened q) h₂ → struck h₁ ≡ struck h₂ →
    FiledAlike (others (opened p) h₁) (others (opened q) h₂)

-- ---- any calls, slots by their numbers

-- The answers to calls that are made one after the other: single removals, width calls and cascades too, which no history has.
abbrev pub answers_to : Index → Arrays → List Op → List Answer
answers_to x a [] = []
answers_to x a (op ∷ ops) = let r = call x a op in r.answer ∷ answers_to r.index r.arrays ops

-- the same calls, compactions included, in both houses
abbrev pub SameCallsInBothHouses : Type 0
SameCallsInBothHouses =
    (file : List ℕ) (p q : House file) (ops : List Op) →
    map accepted (answers_to p.index p.arrays ops) ≡ map accepted (answers_to q.index q.arrays ops) →
    answers_to p.index p.arrays ops ≡ answers_to q.index q.arrays ops
