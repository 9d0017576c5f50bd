-- What the test before the call shows, the distances that are lent to the search for the limit, `&places[..n]`, and the marks that follow.
use mathlib.Core.Path.{◌≡◌, sym, ap, ◌∙◌}
use mathlib.Core.Bool.{Bool, true, false, cond, ◌&&◌}
use mathlib.Core.List.{List}
use Prim.Native.Nat.{ℕ, ◌≤◌, ◌<◌, min}
use native.Mathlib.Omega.{arith}
use native.Mathlib.Decide.{dec_lt}
use lib.Dec.{leb, eqb}
use lib.ListN.{length, take, get_or, replicate, length-replicate}
use borrow.Author.Tests.{lt-leb, le-leb, leb-true, eqb-true}
use Rattle.lists.specs.Lists.{tab, over}
use Rattle.lists.specs.Keep.{bit, Each}
use Rattle.lists.proofs.Laws.{length-tab, get_or-tab, length_over}
use Rattle.lists.proofs.Front.{take-over, each-tab}
use Rattle.lists.proofs.Tests.{both}
use Rattle.padding.specs.Rotatable.{rotatable}
use Rattle.unit.proofs.Rotatable.{rotatable-of}
use Rattle.index.specs.declared.Index.{Index}
use Rattle.index.specs.State.{header_of}
use Rattle.index.specs.Step.{Query}
use Rattle.marks.specs.Live.{live_at}
use Rattle.nearest.specs.Distances.{distance_at, past, live_distance}
use Rattle.nearest.proofs.Distance.{distance-below}
use Rattle.nearest.specs.declared.Limit.{Limit}
use Rattle.nearest.specs.Nearest.{near_marks, cascadable}
use Rattle.nearest.specs.Limit.{Limits, is_marked}
use Rattle.nearest.proofs.Nearest.{marks-near}

-- what the test shows
pub record Ready (slots marks width working entries : ℕ) : Type 0 where
  pub room : slots ≤ marks
  pub few : slots ≤ 65536
  pub four : width ≡ 4
  pub query : rotatable working entries 4096 ≡ true

pub ready : (slots marks width working entries : ℕ) → cascadable slots marks width working entries ≡ true → Ready slots marks width working entries
unfolding cascadable
ready slots marks width working entries t =
    let a = both (leb slots marks) (leb slots 65536 && (eqb width 4 && rotatable working entries 4096)) t in
    let b = both (leb slots 65536) (eqb width 4 && rotatable working entries 4096) a.1 in
    let c = both (eqb width 4) (rotatable working entries 4096) b.1 in
    record { room = leb-true slots marks a.0; few = leb-true slots 65536 b.0; four = eqb-true width 4 c.0; query = c.1 }

-- with more than 65,536 slots it fails anyway, so marks past these don't count
pub cascadable-places : (slots marks width working entries : ℕ) → cascadable slots (min 65536 marks) width working entries ≡ cascadable slots marks width working entries
unfolding cascadable
cascadable-places slots marks width working entries =
    elim (dec_lt marks slots) [
      | yes l ↦ rw (lt-leb slots (min 65536 marks) (omega arith), lt-leb slots marks l)
      | no l ↦ elim (dec_lt 65536 slots) [
        | yes k ↦ rw (lt-leb slots (min 65536 marks) (omega arith), le-leb slots marks (omega arith), lt-leb slots 65536 k)
        | no k ↦ rw (le-leb slots (min 65536 marks) (omega arith), le-leb slots marks (omega arith))
      ]
    ]

pub tested : (slots marks width working entries : ℕ) {places : ℕ} {b : Bool} → b ≡ cascadable slots places width working entries → places ≡ min 65536 marks →
    b ≡ cascadable slots marks width working entries
tested slots marks width working entries e f = e ∙ rw f (cascadable-places slots marks width working entries)

-- what is lent of `next`
pub record Lent (x : Index) (codes alive : List ℕ) (q : Query) (places : ℕ) (next : List ℕ) : Type 0 where
  pub fits : x.n ≤ length next
  pub long : length (take x.n next) ≡ x.n
  pub few : length (take x.n next) ≤ 65536
  pub room : length (take x.n next) ≤ places
  pub low : Each (λ d. d < 12290) (take x.n next)
  pub marks : (r : ℕ) (limit : Limit) → Limits (take x.n next) r limit →
      tab (λ i. bit (is_marked (take x.n next) limit.distance limit.ties i)) (length (take x.n next)) ≡
      near_marks (distance_at (header_of x) codes q) alive x.n r

module _ (x : Index) (codes alive : List ℕ) (q : Query) (places : ℕ) (t : cascadable x.n places x.bits x.working_dim (length q.vector) ≡ true)
    (old next : List ℕ) (size : length old ≡ 65536) (e : next ≡ over (tab (live_distance (header_of x) codes alive q) x.n) old) where
  abbrev distances : List ℕ
  distances = tab (live_distance (header_of x) codes alive q) x.n

  test : Ready x.n places x.bits x.working_dim (length q.vector)
  test = ready x.n places x.bits x.working_dim (length q.vector) t

  lent_fits : x.n ≤ length next
  lent_fits =
      let short : length distances ≤ length old = omega (arith, length-tab (live_distance (header_of x) codes alive q) x.n, size, test.few) in
      omega (arith, ap length e, length_over distances old short, size, test.few)

  lent-are : take x.n next ≡ distances
  lent-are = ap (take x.n) e ∙ take-over distances old x.n (sym (length-tab (live_distance (header_of x) codes alive q) x.n))

  length-lent : length (take x.n next) ≡ x.n
  length-lent = ap length lent-are ∙ length-tab (live_distance (header_of x) codes alive q) x.n

  low : (i : ℕ) → distance_at (header_of x) codes q i < past
  low i = distance-below (header_of x) codes q i (rotatable-of x.working_dim (length q.vector) 4096 test.query).room test.four

  lent-low : Each (λ d. d < 12290) (take x.n next)
  unfolding live_distance
  lent-low = rw lent-are (each-tab (λ d. d < 12290) (live_distance (header_of x) codes alive q) x.n (λ i l. go i (live_at alive i)))
    where
      go : (i : ℕ) (b : Bool) → cond b (distance_at (header_of x) codes q i) past < 12290
      go i true = omega (arith, low i)
      go i false = omega arith

  lent : Lent x codes alive q places next
  unfolding live_distance
  lent =
      record {
        fits = lent_fits;
        long = length-lent;
        few = omega (arith, length-lent, test.few);
        room = omega (arith, length-lent, test.room);
        low = lent-low;
        marks =
            marks-near (distance_at (header_of x) codes q) alive x.n low (take x.n next)
            (λ i l. ap (λ (ds : List ℕ). get_or ds i 0) lent-are ∙ get_or-tab (live_distance (header_of x) codes alive q) x.n i 0 l) length-lent;
      }

-- by the test's answer, of places that held 0
pub lent-by : (x : Index) (codes alive : List ℕ) (q : Query) {places : ℕ} {b : Bool} → b ≡ cascadable x.n places x.bits x.working_dim (length q.vector) →
    b ≡ true → {next : List ℕ} → next ≡ over (tab (live_distance (header_of x) codes alive q) x.n) (replicate 65536 0) → Lent x codes alive q places next
lent-by x codes alive q e t written = lent x codes alive q _ (sym e ∙ t) (replicate 65536 0) _ (length-replicate {A = ℕ} 65536 0) written
