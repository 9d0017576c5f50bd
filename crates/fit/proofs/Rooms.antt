-- What the capacity says of each array.
use mathlib.Core.Path.{◌≡◌}
use mathlib.Core.Bool.{true}
use Prim.Native.Nat.{ℕ, ◌/◌, ◌≤◌, ◌<◌}
use native.Mathlib.Nat.{le_trans}
use native.Mathlib.Omega.{arith}
use lib.ListN.{length, get_or}
use borrow.Author.Tests.{lt-ltb, le-leb}
use Rattle.codes.specs.Writing.{is_width, at_width}
use Rattle.encode.specs.declared.Header.{Header}
use Rattle.encode.specs.Header.{block_size}
use Rattle.index.specs.Arrays.{Arrays}
use Rattle.index.specs.State.{rooms, capacity}
use Rattle.positions.specs.Ordered.{Room}
use Rattle.room.proofs.Least.{least-low, least-each}
use Rattle.fit.specs.Fits.{keys_in, Enough}

-- as many slots as the capacity allows: each array has them
module _ (h : Header) (a : Arrays) (n : ℕ) (fits : n ≤ capacity h a) where
  at : (i : ℕ) → i < length (rooms h a) → n ≤ get_or (rooms h a) i 0
  at i l = le_trans fits (least-each 65536 (rooms h a) i l)

  second : h.residual ≡ true → (n ≤ length a.codes2 / block_size h) × (n ≤ length a.scales2)
  unfolding rooms
  second e = let f = rw e at fits in (le_trans f (least-each 65536 _ 7 (omega arith)), le_trans f (least-each 65536 _ 8 (omega arith)))

  pub enough : Enough h a n
  unfolding rooms
  enough =
      record {
        few = le_trans fits (least-low 65536 (rooms h a));
        codes = at 0 (omega arith);
        scales = at 1 (omega arith);
        keys = at 2 (omega arith);
        keyed = at 3 (omega arith);
        held = at 4 (omega arith);
        alive = at 5 (omega arith);
        codes2 = λ e. (second e).0;
        scales2 = λ e. (second e).1;
        years = at 6 (omega arith);
      }

  pub keys-room : Room (keys_in a) n
  keys-room = record { few = enough.few; keys = enough.keys; keyed = enough.keyed; held = enough.held }

-- a width in range is a code's
pub in-width : (w n : ℕ) → 4 ≤ w → w ≤ 6 → at_width w n ≡ n
unfolding at_width is_width
in-width w n l m = rw (lt-ltb 0 w (omega arith), le-leb w 8 (omega arith))
