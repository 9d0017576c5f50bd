-- The block of a slot, where the array has it whole.
use mathlib.Core.Path.{◌≡◌, ap, ◌∙◌}
use mathlib.Core.List.{List}
use Prim.Native.Nat.{ℕ, ◌+◌, ◌*◌, ◌≤◌}
use native.Mathlib.Omega.{arith}
use borrow.Author.Tests.{le-leb}
use lib.ListN.{length, take, drop, length-drop}
use lib.Seq.{length-take-le}
use Rattle.codes.specs.Slots.{block_at}

pub block-there : (bytes slot : ℕ) (xs : List ℕ) → slot * bytes + bytes ≤ length xs → block_at bytes slot xs ≡ take bytes (drop (slot * bytes) xs)
unfolding block_at
block-there bytes slot xs h = rw (le-leb (slot * bytes + bytes) (length xs) h)

pub length-block : (bytes slot : ℕ) (xs : List ℕ) → slot * bytes + bytes ≤ length xs → length (block_at bytes slot xs) ≡ bytes
length-block bytes slot xs h =
    ap length (block-there bytes slot xs h) ∙ length-take-le bytes (drop (slot * bytes) xs) (omega (arith, length-drop (slot * bytes) xs))
