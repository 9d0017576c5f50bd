-- Sums over lanes and over bytes, as loops make them, and how large they can be.
use mathlib.Core.Path.{◌≡◌, ap, ◌∙◌}
use mathlib.Core.List.{List}
use Prim.Native.Nat.{ℕ, zero, suc, ◌+◌, ◌*◌, ◌/◌, ◌≤◌, ◌<◌}
use native.Mathlib.Nat.{add-zero, add-suc, zero-add, mul-suc}
use native.Mathlib.Numerals.{add-one}
use native.Mathlib.Omega.{arith}
use lib.ListN.{get_or}
use Rattle.lists.specs.Lists.{tab, total}
use Rattle.lists.proofs.Laws.{total-next}
use Rattle.codes.specs.Packing.{code_at}
use Rattle.codes.specs.Writing.{at_width}
use Rattle.codes.proofs.Packing.{code_at-lt}
use Rattle.codes.proofs.Tests.{at_width_lem}
use Rattle.index.specs.Codec.{apart}
use Rattle.nearest.specs.Lanes.{lane_apart, lanes_apart}
use Rattle.nearest.specs.Pairs.{Low}

module _ (f : ℕ → ℕ) where
  -- n more, each at most k
  pub total-more : (k m n : ℕ) → ((i : ℕ) → i < m + n → f i ≤ k) → total (tab f (m + n)) ≤ total (tab f m) + k * n
  total-more k m zero h = rw add-zero (omega arith)
  total-more k m (suc n) h =
      rw (add-suc, mul-suc) (omega (arith, total-next f (m + n), total-more k m n (λ i l. h i (omega arith)), h (m + n) (omega arith)))

  pub total-most : (k n : ℕ) → ((i : ℕ) → i < n → f i ≤ k) → total (tab f n) ≤ k * n
  total-most k n h = rw (zero-add n, zero-add (k * n)) at (total-more k 0 n (λ i l. h i (omega arith)))

-- ---- a loop that sums f from `from` on

pub record Gained (f : ℕ → ℕ) (from to sum i : ℕ) : Type 0 where
  pub within : i ≤ to
  pub so_far : total (tab f from) + sum ≡ total (tab f i)

module _ {f : ℕ → ℕ} {from to sum i : ℕ} (g : Gained f from to sum i) where
  -- with the sum up to j
  pub gained-part : (j r : ℕ) → j ≤ to → total (tab f i) + r ≡ total (tab f j) → Gained f from to (sum + r) j
  gained-part j r l e = record { within = l; so_far = omega (arith, g.so_far) }

  pub gained-more : i < to → (r : ℕ) → r ≡ f i → Gained f from to (sum + r) (i + 1)
  gained-more l r e = gained-part (i + 1) r (omega arith) (rw (add-one i) (omega (arith, total-next f i)))

  pub gained-all : to ≤ i → total (tab f from) + sum ≡ total (tab f to)
  gained-all l = let e : i ≡ to = omega (arith, g.within) in rw e at g.so_far

  pub gained-most : (k : ℕ) → ((j : ℕ) → j < i → f j ≤ k) → sum ≤ k * i
  gained-most k h = omega (arith, g.so_far, total-most f k i h)

-- with the sum of the k more that are left, from the first on
pub gained-rest : {f : ℕ → ℕ} {to sum i : ℕ} → Gained f 0 to sum i → (j k r : ℕ) → i ≡ j → j + k ≡ to → total (tab f j) + r ≡ total (tab f (j + k)) → sum + r ≡ total (tab f to)
gained-rest {f} {to} {sum} {i} g j k r e h rest = omega (arith, g.so_far, ap (λ (m : ℕ). total (tab f m)) e, rest, ap (λ (m : ℕ). total (tab f m)) h)

-- ---- one lane

-- the top two bits of a code of four are below 4
pub top-low : (block : List ℕ) (i : ℕ) → code_at 4 block i / 4 ≤ 3
top-low block i = omega (arith, code_at-lt 4 block i)

module _ (tops block : List ℕ) (i : ℕ) where
  -- as it is read
  pub lane-read : (code r : ℕ) → code ≡ at_width 4 (code_at 4 block i) → r ≡ apart (get_or tops i 0) (code / 4) → r ≡ lane_apart tops block i
  unfolding lane_apart
  lane-read code r is e =
      e ∙ ap (λ (c : ℕ). apart (get_or tops i 0) (c / 4)) (is ∙ at_width_lem (code_at 4 block i) (record { some = omega arith; most = omega arith }))

  pub lane_low : get_or tops i 0 ≤ 3 → lane_apart tops block i ≤ 3
  unfolding lane_apart
  lane_low l = omega (arith, top-low block i)

-- all lanes
pub lanes-most : (tops block : List ℕ) (n : ℕ) → Low tops n → lanes_apart tops block n ≤ 3 * n
unfolding lanes_apart
lanes-most tops block n low = total-most (lane_apart tops block) 3 n (λ i l. lane_low tops block i (low i l))
