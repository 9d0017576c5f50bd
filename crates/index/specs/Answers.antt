-- Document 01: "Where an answer is an enum, a definition gives this paper's number and values for each case of the enum." The enum is Result, and Refusal for its errors
-- (Verdict.antt has their numbers); here are the values, one definition for each kind of call.
-- A call that may change the index hands back the new record, and its arrays are those at its end; a refusal and a No hand back none: the caller keeps the old one.
use Rattle.std.specs.Prelude.{◌≡◌, Bool, true, false, List, ℕ, get_or, drop, Float, Option, Some, None}
use Rattle.std.proofs.Math.Option.{none, some}
use Rattle.pattern.specs.Binary32.{+0}
use Rattle.lists.specs.Lists.{tab}
use Rattle.score.specs.declared.Scored.{Scored}
use Rattle.index.specs.declared.Index.{Index}
use Rattle.index.specs.Verdict.{Verdict, granted, turned_down}
use Rattle.index.specs.declared.Added.{Added}
use Rattle.index.specs.Arrays.{Arrays}
use Rattle.index.specs.Step.{Answer, refused, done, flag, slot, maybe_slot, maybe_key, score_is, hits, key_hits, size, bytes}
use Rattle.index.specs.Call.{Result}

abbrev pub result_of : Index → Arrays → Answer → Result
result_of x a r = record { index = x; arrays = a; answer = r }

-- ---- calls that may change the index: the old record, the answer, the arrays at the end

abbrev pub made : Index → Verdict Index → Arrays → Result
made x (granted y) a = result_of y a done
made x (turned_down n) a = result_of x a (refused n)

abbrev pub added : Index → Verdict Added → Arrays → Result
added x (granted y) a = result_of y.index a (slot y.slot)
added x (turned_down n) a = result_of x a (refused n)

abbrev pub changed : Index → Verdict (Option Index) → Arrays → Result
changed x (granted (Some y)) a = result_of y a (flag true)
changed x (granted None) a = result_of x a (flag false)
changed x (turned_down n) a = result_of x a (refused n)

-- ---- questions

abbrev pub asked : Verdict Bool → Answer
asked (granted true) = flag true
asked (granted false) = flag false
asked (turned_down n) = refused n

abbrev pub key_is : Verdict (Option ℕ) → Answer
key_is (granted (Some k)) = maybe_key (some k)
key_is (granted None) = maybe_key none
key_is (turned_down n) = refused n

abbrev pub held_is : Verdict (Option ℕ) → Answer
held_is (granted (Some i)) = maybe_slot (some i)
held_is (granted None) = maybe_slot none
held_is (turned_down n) = refused n

abbrev pub scored : Scored → Answer
scored (Scored.Score x) = score_is x
scored (Scored.Refused n) = refused n

abbrev pub length_is : Verdict ℕ → Answer
length_is (granted n) = size n
length_is (turned_down n) = refused n

-- ---- searches and writing, which hand a list or bytes back in the first places of lent slices: the answer says in how many

-- how many places the answer takes: none for a refusal
abbrev pub how_many : Verdict ℕ → ℕ
how_many (granted m) = m
how_many (turned_down n) = 0

-- The first m entries of a slice, and the first m of two in pairs. An m past the end counts too, so that the list tells m.
abbrev pub first_entries : (m : ℕ) → List ℕ → List ℕ
first_entries m xs = tab (λ i. get_or xs i 0) m

abbrev pub first_pairs : (m : ℕ) → List ℕ → List Float → List (ℕ × Float)
first_pairs m xs ys = tab (λ i. (get_or xs i 0, get_or ys i +0)) m

-- by what the slices hold after the call: a search's the slots and their scores, a keyed search's the keys and their scores
abbrev pub found : Verdict ℕ → (slots : List ℕ) → (scores : List Float) → Answer
found (granted m) ns ss = hits (first_pairs m ns ss)
found (turned_down n) ns ss = refused n

abbrev pub found_keyed : Verdict ℕ → (keys : List ℕ) → (scores : List Float) → Answer
found_keyed (granted m) ns ss = key_hits (first_pairs m ns ss)
found_keyed (turned_down n) ns ss = refused n

abbrev pub wrote : Verdict ℕ → (file : List ℕ) → Answer
wrote (granted m) file = bytes (first_entries m file)
wrote (turned_down n) file = refused n

-- 01: "Result places past the answer keep their contents.", the answer being in the first m
abbrev pub LaterKept : {A : Type 0} → (m : ℕ) → (before after : List A) → Type 0
LaterKept m before after = drop m after ≡ drop m before
