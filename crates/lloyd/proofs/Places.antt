-- A table in the first places of an array, lent again.
use mathlib.Core.Path.{◌≡◌}
use Prim.Native.Nat.{ℕ, ◌-◌, ◌≤◌}
use native.Mathlib.Nat.{sub-zero}
use native.Mathlib.Omega.{arith}
use mathlib.Core.List.{List}
use lib.ListN.{length, take, drop, length-append}
use lib.Seq.{take-append_seam}
use lib.Ieee.{Float}
use Rattle.lloyd.specs.Tables.{zeros64, in_places}

-- `&places[0..n]` of an array that holds a table of n entries: it can be lent, and it is the table
module _ (table places : List Float) (n : ℕ) (e : places ≡ in_places table) (h : n ≡ length table) where
  pub lent_fits : n ≤ length places
  unfolding in_places
  lent_fits = rw (e, h) (simp length-append (omega arith))

  pub lent : take (n - 0) places ≡ table
  unfolding in_places
  lent = rw (sub-zero n, e, h) (take-append_seam table (drop (length table) zeros64))
