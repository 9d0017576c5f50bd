-- Games with one trait, over the calls: document 02, Req 05. Laws of proofs/OneTrait.antt and proofs/Refusals.antt.
use Rattle.std.specs.Prelude.{◌≡◌, Bool, true, ◌&&◌, List, map, ℕ, ◌%◌, ◌<◌, get_or, eqb, Float}
use Rattle.std.proofs.Math.Option.{Option}
use Rattle.std.specs.Float.{nan}
use Rattle.lloyd.specs.Tables.{centroids_of}
use Rattle.unit.specs.Unit.{prepared}
use Rattle.encode.specs.declared.Header.{Header}
use Rattle.encode.specs.Header.{padded}
use Rattle.encode.specs.Coded.{Code, fault, rotated_of}
use Rattle.score.specs.Score.{judged}
use Rattle.score.specs.OneTrait.{trait_score}
use Rattle.index.specs.declared.Index.{Index}
use Rattle.index.specs.Arrays.{Arrays}
use Rattle.index.specs.State.{header_of, slot_at}
use Rattle.index.specs.Fit.{fit}
use Rattle.index.specs.Step.{Op, score, search_keyed, Query, refused}
use Rattle.index.specs.Call.{call}
use Rattle.index.specs.Ties.{slot_search}
use Rattle.index.specs.Answers.{scored}

-- "At padded size 1 and width 4"
abbrev pub one_trait : Header → Bool
one_trait h = eqb (padded h) 1 && eqb h.bits 4

-- ---- scores

-- "the query entry, rotated as at other sizes": a prepared query of padded size 1 has this one
abbrev pub query_entry : Header → Query → Float
query_entry h q = get_or (prepared (rotated_of h q.vector)) 0 nan

-- the request's sentence
abbrev pub trait_score_of : Header → Query → Code → Float
trait_score_of h q c = trait_score (centroids_of 4) (query_entry h q) c.first c.second

-- What `score` answers where nothing is turned down: that score, and 12 where it is NaN. Each line of a search has the score that `score` answers: Ties.antt.
abbrev pub ScoresByTrait : Type 0
ScoresByTrait =
    (x : Index) (a : Arrays) (i : ℕ) (q : Query) → one_trait (header_of x) ≡ true → fit x a ≡ true → i < x.n → fault (header_of x) q.vector ≡ 0 →
    (call x a (score i q)).answer ≡ scored (judged (trait_score_of (header_of x) q (slot_at (header_of x) a i).code))

-- ---- "The high four bits count for nothing, in cascade distance too."

abbrev pub with_codes : Arrays → (codes codes2 : List ℕ) → Arrays
with_codes a codes codes2 =
    record {
      codes = codes;
      scales = a.scales;
      keys = a.keys;
      keyed = a.keyed;
      held = a.held;
      alive = a.alive;
      codes2 = codes2;
      scales2 = a.scales2;
      years = a.years;
    }

-- code bytes with these bits 0
abbrev pub high_cleared : List ℕ → List ℕ
high_cleared codes = map (λ b. b % 16) codes

-- the calls that score answer the same over two sets of arrays: the full search and a cascade of any r are `slot_search`
pub record ScoresAlike (x : Index) (a b : Arrays) : Type 0 where
  pub scores : (i : ℕ) (q : Query) → (call x a (score i q)).answer ≡ (call x b (score i q)).answer
  pub slots : (r : Option ℕ) (q : Query) (k places : ℕ) → (call x a (slot_search r q k places)).answer ≡ (call x b (slot_search r q k places)).answer
  pub keys : (q : Query) (k places : ℕ) → (call x a (search_keyed q k places)).answer ≡ (call x b (search_keyed q k places)).answer

abbrev pub HighBitsIdle : Type 0
HighBitsIdle =
    (x : Index) (a : Arrays) → one_trait (header_of x) ≡ true → ScoresAlike x (with_codes a (high_cleared a.codes) (high_cleared a.codes2)) a

-- ---- "Refusal 10 is never given from here on."

-- by no call. Making and reading never had it: `make_refusal` and `read_refusal` list their numbers.
abbrev pub NeverTen : Type 0
NeverTen = (x : Index) (a : Arrays) (op : Op) → (call x a op).answer ≡ refused 10 → ⊥
