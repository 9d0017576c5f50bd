-- Running sums in lanes, for any number of lanes m: with one term more, and with m terms more.
use mathlib.Core.Path.{◌≡◌, refl, sym, ap, ◌∙◌}
use mathlib.Core.Logic.{◌⊎◌, inl, inr}
use mathlib.Core.Bool.{Bool, true, false, cond}
use mathlib.Core.List.{List, [], ◌∷◌, ◌++◌, append-nil}
use Prim.Native.Nat.{ℕ, zero, suc, ◌+◌, ◌%◌, ◌≤◌, ◌<◌}
use native.Mathlib.Nat.{add-zero, zero-add, add-suc, suc-add, mod-lt, add-mod_right, mod-add-mod, mod-eq_of_lt, eq-or-lt_of_le, le_of_suc-le-suc}
use native.Mathlib.Numerals.{add-one}
use native.Mathlib.Omega.{arith}
use borrow.Author.Tests.{eq-eqb, ne_eqb}
use lib.Dec.{eqb}
use lib.ListN.{length, take, get_or, set}
use lib.Seq.{take-suc, take_all, length-take-le}
use lib.Ieee.{Float, nan}
use Rattle.pattern.specs.Binary32.{◌⊕◌, +0, sum_of}
use Rattle.pattern.proofs.Sums.{sum-snoc}
use Rattle.lists.specs.Lists.{tab}
use Rattle.lists.proofs.Laws.{get_or-tab, tab-ext}
use Rattle.lists.proofs.Entries.{set-tab, entries}
use Rattle.score.specs.Lanes.{in_lane, lanes, pair_sums, bracketed}

module _ (m : ℕ) where
  -- a lane's terms, with one term more
  lane-snoc : (j i : ℕ) (xs : List Float) (x : Float) → in_lane m j i (xs ++ (x ∷ [])) ≡ in_lane m j i xs ++ cond (eqb ((i + length xs) % m) j) (x ∷ []) []
  unfolding in_lane
  lane-snoc j i [] x = ap (λ (k : ℕ). cond (eqb (k % m) j) (x ∷ []) []) (sym (add-zero i))
  lane-snoc j i (y ∷ xs) x =
      rw (lane-snoc j (suc i) xs x, suc-add i (length xs), add-suc i (length xs)) (go (eqb (i % m) j) _ _)
    where
      go : (b : Bool) (l r : List Float) → cond b (y ∷ (l ++ r)) (l ++ r) ≡ cond b (y ∷ l) l ++ r
      go true l r = refl
      go false l r = refl

  -- the sum of lane j, and with one term more
  abbrev lane : ℕ → List Float → Float
  lane j xs = sum_of (in_lane m j 0 xs)

  more : (j : ℕ) (xs : List Float) (x : Float)
      → lane j (xs ++ (x ∷ [])) ≡ cond (eqb (length xs % m) j) (lane j xs ⊕ x) (lane j xs)
  more j xs x = ap sum_of (lane-snoc j 0 xs x) ∙ rw (zero-add (length xs)) (go (eqb (length xs % m) j) (in_lane m j 0 xs))
    where
      go : (b : Bool) (l : List Float) → sum_of (l ++ cond b (x ∷ []) []) ≡ cond b (sum_of l ⊕ x) (sum_of l)
      go true l = sum-snoc +0 l x
      go false l = ap sum_of (append-nil l)

  more_of : (ts : List Float) (j n : ℕ) → n < length ts
      → lane j (take (suc n) ts) ≡ cond (eqb (n % m) j) (lane j (take n ts) ⊕ get_or ts n nan) (lane j (take n ts))
  more_of ts j n h = rw (take-suc ts n nan h, more j (take n ts) (get_or ts n nan), length-take-le n ts (omega arith))

  -- the next term goes to the lane of its index modulo m
  pub lanes_next : (ts : List Float) (i : ℕ) → 0 < m → i < length ts
      → set (lanes m (take i ts)) (i % m) (get_or (lanes m (take i ts)) (i % m) nan ⊕ get_or ts i nan) ≡ lanes m (take (i + 1) ts)
  unfolding lanes
  lanes_next ts i hm h =
      rw (add-one i, get_or-tab (λ j. lane j (take i ts)) m (i % m) nan (mod-lt i hm))
      (set-tab (λ j. lane j (take i ts)) (λ j. lane j (take (suc i) ts)) m (i % m) _ (mod-lt i hm)
      (more_of ts (i % m) i h ∙ rw (eq-eqb (i % m) (i % m) refl))
      (λ j d. more_of ts j i h ∙ rw (ne_eqb (i % m) j (λ e. d (sym e)))))

  -- ---- m terms more, from an index i on that is a multiple of m: lane j takes term i + j
  module _ (ts : List Float) (i : ℕ) (e : i % m ≡ 0) (h : i + m ≤ length ts) where
    -- with one of them more; lane j before it has its term, and after
    after : (j n : ℕ) → n < m
        → lane j (take (i + suc n) ts) ≡ cond (eqb n j) (lane j (take (i + n) ts) ⊕ get_or ts (i + n) nan) (lane j (take (i + n) ts))
    after j n l =
        rw (add-suc i n, more_of ts j (i + n) (omega arith))
        (ap (λ (k : ℕ). cond (eqb k j) (lane j (take (i + n) ts) ⊕ get_or ts (i + n) nan) (lane j (take (i + n) ts)))
        (sym (mod-add-mod i m n) ∙ rw (e, zero-add n) (mod-eq_of_lt l)))

    before : (j n : ℕ) → n ≤ j → j < m → lane j (take (i + n) ts) ≡ lane j (take i ts)
    before j zero l k = rw (add-zero i)
    before j (suc n) l k = after j n (omega arith) ∙ rw (ne_eqb n j (λ d. omega arith)) (before j n (omega arith) k)

    taken : (j n : ℕ) → j < n → n ≤ m → lane j (take (i + n) ts) ≡ lane j (take i ts) ⊕ get_or ts (i + j) nan
    taken j zero l k = absurd (omega arith)
    taken j (suc n) l k = after j n k ∙ go (taken j n) (eq-or-lt_of_le (le_of_suc-le-suc l))
      where
        go : (j < n → n ≤ m → lane j (take (i + n) ts) ≡ lane j (take i ts) ⊕ get_or ts (i + j) nan) → (j ≡ n) ⊎ (j < n)
            → cond (eqb n j) (lane j (take (i + n) ts) ⊕ get_or ts (i + n) nan) (lane j (take (i + n) ts)) ≡ lane j (take i ts) ⊕ get_or ts (i + j) nan
        go ih (inl d) = rw (eq-eqb n j (sym d), ← d) (ap (λ (x : Float). x ⊕ get_or ts (i + j) nan) (before j j (omega arith) (omega arith)))
        go ih (inr d) = rw (ne_eqb n j (λ z. omega arith)) (ih d (omega arith))

    pub lanes-block : (acc : List Float) → acc ≡ lanes m (take i ts) → tab (λ j. get_or acc j nan ⊕ get_or ts (i + j) nan) m ≡ lanes m (take (i + m) ts)
    unfolding lanes
    lanes-block acc a = rw a (tab-ext _ _ m (λ j l. rw (get_or-tab (λ j. lane j (take i ts)) m j nan l) (sym (taken j m l (omega arith)))))

-- ---- a loop over m terms at a time: the first i are in the lanes
pub record InLanes (m : ℕ) (terms acc : List Float) (i : ℕ) : Type 0 where
  pub blocks : i % m ≡ 0
  pub within : i ≤ length terms
  pub sums : acc ≡ lanes m (take i terms)

module _ (m : ℕ) (terms acc : List Float) (i : ℕ) (h : InLanes m terms acc i) where
  pub lanes-again : (next : List Float) → i + m ≤ length terms → next ≡ tab (λ j. get_or acc j nan ⊕ get_or terms (i + j) nan) m → InLanes m terms next (i + m)
  lanes-again next l e =
      record { blocks = add-mod_right i m ∙ h.blocks; within = l; sums = e ∙ lanes-block m terms i h.blocks l acc h.sums }

  pub lanes_all : length terms ≤ i → acc ≡ lanes m terms
  lanes_all l = h.sums ∙ ap (lanes m) (take_all i terms l)

-- ---- brackets

module _ (a : List Float) where
  abbrev at : ℕ → Float
  at i = get_or a i nan

  pub bracketed-four : length a ≡ 4 → (at 0 ⊕ at 1) ⊕ (at 2 ⊕ at 3) ≡ bracketed 2 a
  unfolding bracketed pair_sums
  bracketed-four e = sym (ap (bracketed 2) (entries a nan 4 e))

  pub bracketed-eight : length a ≡ 8 → ((at 0 ⊕ at 1) ⊕ (at 2 ⊕ at 3)) ⊕ ((at 4 ⊕ at 5) ⊕ (at 6 ⊕ at 7)) ≡ bracketed 3 a
  unfolding bracketed pair_sums
  bracketed-eight e = sym (ap (bracketed 3) (entries a nan 8 e))
