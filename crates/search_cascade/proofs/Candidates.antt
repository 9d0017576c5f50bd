-- The candidates of a cascade on a record and arrays: the live slots that are near, and the slots whose marks say so.
use mathlib.Core.Path.{◌≡◌, refl, sym, ap, ◌∙◌}
use mathlib.Core.Bool.{Bool, true, false, cond, ◌&&◌, ◌||◌}
use mathlib.Core.List.{List, [], ◌∷◌, map}
use Prim.Native.Nat.{ℕ, ◌<◌, min}
use native.Mathlib.Omega.{arith}
use lib.Dec.{ltb, eqb}
use lib.ListN.{length, length-map}
use Rattle.lists.specs.Lists.{tab, over, below}
use Rattle.lists.specs.Keep.{bit, keep, count}
use Rattle.lists.proofs.Laws.{length-tab, get_or-tab}
use Rattle.lists.proofs.Front.{get_d_front, each-tab}
use Rattle.lists.proofs.Keep.{keep-map, count_map, length-keep, keep_same}
use Rattle.marks.specs.Live.{live_at}
use Rattle.unit.proofs.Rotatable.{padded-most}
use Rattle.index.specs.declared.Index.{Index}
use Rattle.index.specs.Arrays.{Arrays}
use Rattle.index.specs.State.{header_of, slot_at, state_of}
use Rattle.index.specs.Codec.{distance}
use Rattle.index.specs.Fit.{fit}
use Rattle.index.specs.Step.{Query, Cell, live_from, nearer, candidates}
use Rattle.fit.proofs.Meaning.{meaning}
use Rattle.held.proofs.Live.{cell_at}
use Rattle.nearest.specs.Distances.{distance_at}
use Rattle.nearest.proofs.Distance.{distance-slot, distance-below}
use Rattle.nearest.specs.Nearest.{before, is_near, near_marks}
use Rattle.nearest.proofs.Nearest.{near-count}
use Rattle.asking.proofs.Cells.{cells}
use Rattle.asking.proofs.Live.{live-cells, live-length}

-- ---- lists

keep-both : (p q : ℕ → Bool) (is : List ℕ) → keep p (keep q is) ≡ keep (λ i. q i && p i) is
keep-both p q [] = refl
keep-both p q (i ∷ is) = go (q i) (keep-both p q is)
  where
    go : (b : Bool) → keep p (keep q is) ≡ keep (λ i. q i && p i) is →
        keep p (cond b (i ∷ keep q is) (keep q is)) ≡ cond (b && p i) (i ∷ keep (λ i. q i && p i) is) (keep (λ i. q i && p i) is)
    go true ih = rw ih
    go false ih = ih

bit-marked : (b : Bool) → ltb 0 (bit b) ≡ b
bit-marked true = refl
bit-marked false = refl

module _ (x : Index) (a : Arrays) (q : Query) (r : ℕ) where
  abbrev pub near : ℕ → Bool
  near = is_near (distance_at (header_of x) a.codes q) a.alive x.n r

  abbrev pub candidate_cells : List Cell
  candidate_cells = candidates (header_of x) q r (live_from 0 (state_of x a).slots)

  abbrev cell : ℕ → Cell
  cell = cell_at (slot_at (header_of x) a) x.n

  abbrev live : List ℕ
  live = keep (live_at a.alive) (below x.n)

  slot-distance : (i : ℕ) → distance (header_of x) q (slot_at (header_of x) a i).code ≡ distance_at (header_of x) a.codes q i
  slot-distance i = sym (distance-slot (header_of x) a q i)

  same-before : (i j : ℕ) → nearer (header_of x) q (cell i) (cell j) ≡ before (distance_at (header_of x) a.codes q) a.alive x.n i j
  same-before i j = λ k. ltb (slot-distance i k) (slot-distance j k) || (eqb (slot-distance i k) (slot-distance j k) && ltb i j)

  -- the step's candidates are the near slots
  pub candidates-near : candidate_cells ≡ map cell (keep near (below x.n))
  unfolding candidates is_near
  candidates-near =
      ap (candidates (header_of x) q r) (live-cells x a)
      ∙ keep-map cell (λ (d : Cell). ltb (count (λ c. nearer (header_of x) q c d) (map cell live)) r) live
      ∙ ap (map cell) (
      (λ k. keep (λ j. ltb (count_map cell (λ c. nearer (header_of x) q c (cell j)) live k) r) live)
      ∙ (λ k. keep (λ j. ltb (count (λ i. same-before i j k) live) r) live)
      ∙ keep-both (λ j. ltb (count (λ i. before (distance_at (header_of x) a.codes q) a.alive x.n i j) live) r) (live_at a.alive) (below x.n)
      )

  -- and so are the slots with such marks
  module _ (marks : List ℕ) (are : (i : ℕ) → i < x.n → live_at marks i ≡ near i) where
    pub candidates-marked : candidate_cells ≡ cells (header_of x) a marks x.n
    candidates-marked =
        candidates-near ∙ ap (map cell) (sym (keep_same (live_at marks) near (below x.n) (each-tab (λ i. live_at marks i ≡ near i) (λ i. i) x.n are)))

  pub marks-are : (places : List ℕ) (i : ℕ) → i < x.n → live_at (over (near_marks (distance_at (header_of x) a.codes q) a.alive x.n r) places) i ≡ near i
  unfolding near_marks
  marks-are places i l =
      ap (ltb 0) (get_d_front (tab (λ i. bit (near i)) x.n) places i 0 (rw (length-tab (λ i. bit (near i)) x.n) l) ∙ get_or-tab (λ i. bit (near i)) x.n i 0 l)
      ∙ bit-marked (near i)

  -- there are r, or as many as are live
  pub candidates-count : fit x a ≡ true → x.bits ≡ 4 → length candidate_cells ≡ min r x.live
  candidates-count e width =
      let f = ((meaning x a).yes e).fields in
      let lanes = padded-most x.working_dim (omega (arith, f.working-high, f.dim-high)) in
      let many = sym (length-map live cell ∙ length-keep (live_at a.alive) (below x.n)) ∙ sym (ap length (live-cells x a)) ∙ live-length x a e in
      ap length candidates-near ∙ length-map (keep near (below x.n)) cell ∙ length-keep near (below x.n)
      ∙ near-count (distance_at (header_of x) a.codes q) a.alive x.n (λ i. distance-below (header_of x) a.codes q i lanes width) r
      ∙ ap (min r) many
