-- Two lanes at a time: the sum over the bytes of a block is the sum over their lanes.
use mathlib.Core.Path.{◌≡◌, refl, ap, ◌∙◌}
use mathlib.Core.List.{List}
use Prim.Native.Nat.{ℕ, zero, suc, ◌+◌, ◌-◌, ◌*◌, ◌/◌, ◌%◌, ◌≤◌, ◌<◌}
use native.Mathlib.Nat.{add-zero}
use native.Mathlib.Numerals.{add-one}
use native.Mathlib.Omega.{arith}
use lib.ListN.{length, get_or}
use Rattle.lists.specs.Lists.{tab, over, total}
use Rattle.lists.proofs.Laws.{length-tab, get_or-tab, total-next}
use Rattle.lists.proofs.Front.{get_d_front}
use Rattle.digits.specs.Digits.{Below}
use Rattle.score.proofs.Products.{low-code, high-code}
use Rattle.index.specs.Codec.{apart}
use Rattle.nearest.specs.Lanes.{lane_apart, lanes_apart, byte_apart, bytes_apart}
use Rattle.nearest.specs.Pairs.{Low, Pairs, Split}
use Rattle.nearest.proofs.Lanes.{total-more, Gained, gained-more, gained-all, gained-most}

apart_low : (a b : ℕ) → a ≤ 3 → b ≤ 3 → apart a b ≤ 3
apart_low a b k l = omega arith

-- ---- for fewer bytes

module _ {even odd : List ℕ} {n : ℕ} (p : Pairs even odd n) where
  pub pairs-fewer : (m : ℕ) → m ≤ n → Pairs even odd m
  pairs-fewer m l =
      record {
        even-room = omega (arith, p.even-room);
        odd-room = omega (arith, p.odd-room);
        even-low = λ i k. p.even-low i (omega arith);
        odd-low = λ i k. p.odd-low i (omega arith);
      }

  pub byte_low : (block : List ℕ) → Below 256 block → (i : ℕ) → i < n → byte_apart even odd block i ≤ 6
  unfolding byte_apart
  byte_low block bytes i l =
      let b = get_or block i 0 in
      omega (
        arith,
        apart_low (get_or even i 0) (b % 16 / 4) (p.even-low i l) (omega arith),
        apart_low (get_or odd i 0) (b / 64) (p.odd-low i l) (omega (arith, bytes i)),
      )

  pub bytes_most : (block : List ℕ) → Below 256 block → {sum i : ℕ} → Gained (byte_apart even odd block) 0 n sum i → sum ≤ 6 * i
  bytes_most block bytes g = gained-most g 6 (λ j l. byte_low block bytes j (omega (arith, g.within)))

-- ---- a loop over bytes from `from` on

pub record Few (even odd block : List ℕ) (from to sum i : ℕ) : Type 0 where
  pub gained : Gained (byte_apart even odd block) from to sum i
  pub later : from ≤ i

module _ {even odd block : List ℕ} {from to sum i : ℕ} (m : Few even odd block from to sum i) where
  pub few-all : to ≤ i → bytes_apart even odd block from + sum ≡ bytes_apart even odd block to
  unfolding bytes_apart
  few-all l = gained-all m.gained l

  module _ (p : Pairs even odd to) (bytes : Below 256 block) (l : i < to) (x y : ℕ)
      (low : x ≡ apart (get_or even i 0) (get_or block i 0 % 16 / 4)) (high : y ≡ apart (get_or odd i 0) (get_or block i 0 / 64)) where
    byte-is : x + y ≡ byte_apart even odd block i
    unfolding byte_apart
    byte-is = omega arith

    pub few-low : sum + (x + y) ≤ 6 * (i + 1 - from)
    few-low =
        let f = byte_apart even odd block in
        let each : (j : ℕ) → j < to → f j ≤ 6 = byte_low p block bytes in
        let at : from + (i - from) ≡ i = omega (arith, m.later) in
        let so_far : total (tab f i) ≤ total (tab f from) + 6 * (i - from) = rw at at (total-more f 6 from (i - from) (λ j k. each j (omega (arith, m.later, l, k)))) in
        omega (arith, m.gained.so_far, byte-is, each i l, so_far, m.later)

    pub few-more : Few even odd block from to (sum + (x + y)) (i + 1)
    few-more = record { gained = gained-more m.gained l (x + y) byte-is; later = omega (arith, m.later) }

-- ---- a byte has two lanes

module _ {tops even odd : List ℕ} {n : ℕ} (s : Split tops even odd n) (block : List ℕ) (bytes : Below 256 block) where
  byte-lanes : (i : ℕ) → i < n → byte_apart even odd block i ≡ lane_apart tops block (i * 2) + lane_apart tops block (i * 2 + 1)
  unfolding byte_apart lane_apart
  byte-lanes i l =
      let top : get_or block i 0 / 16 / 4 ≡ get_or block i 0 / 64 = omega arith in
      rw (s.evens i l, s.odds i l, low-code block bytes i, high-code block bytes i, top)

  pub bytes-lanes : (m : ℕ) → m ≤ n → bytes_apart even odd block m ≡ lanes_apart tops block (m * 2)
  unfolding bytes_apart lanes_apart
  bytes-lanes zero l = refl
  bytes-lanes (suc m) l =
      let f = lane_apart tops block in
      let e : suc m * 2 ≡ suc (suc (m * 2)) = omega arith in
      rw e (omega (
        arith,
        total-next (byte_apart even odd block) m,
        byte-lanes m (omega arith),
        bytes-lanes m (omega arith),
        total-next f (m * 2),
        total-next f (suc (m * 2)),
        ap f (add-one (m * 2)),
      ))

-- ---- the two arrays, as they are written

pub written_at : (f : ℕ → ℕ) (n : ℕ) (old xs : List ℕ) → xs ≡ over (tab f n) old → (i : ℕ) → i < n → get_or xs i 0 ≡ f i
written_at f n old xs e i l = ap (λ (ys : List ℕ). get_or ys i 0) e ∙ get_d_front (tab f n) old i 0 (rw (length-tab f n) l) ∙ get_or-tab f n i 0 l

pub split-tops : (tops even-old even odd-old odd : List ℕ) (lanes : ℕ) → Low tops lanes → lanes / 2 ≤ length even → lanes / 2 ≤ length odd →
    even ≡ over (tab (λ i. get_or tops (i * 2 + 0) 0) (lanes / 2)) even-old → odd ≡ over (tab (λ i. get_or tops (i * 2 + 1) 0) (lanes / 2)) odd-old →
    Split tops even odd (lanes / 2)
split-tops tops even-old even odd-old odd lanes low k l e o =
    let evens : (i : ℕ) → i < lanes / 2 → get_or even i 0 ≡ get_or tops (i * 2) 0 = λ i h. written_at _ (lanes / 2) even-old even e i h ∙ rw add-zero in
    let odds : (i : ℕ) → i < lanes / 2 → get_or odd i 0 ≡ get_or tops (i * 2 + 1) 0 = written_at _ (lanes / 2) odd-old odd o in
    record {
      pairs =
          record {
            even-room = k;
            odd-room = l;
            even-low = λ i h. rw (evens i h) (low (i * 2) (omega arith));
            odd-low = λ i h. rw (odds i h) (low (i * 2 + 1) (omega arith));
          };
      evens = evens;
      odds = odds;
    }
