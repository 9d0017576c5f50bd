-- The least of several numbers.
use mathlib.Core.Path.{◌≡◌}
use mathlib.Core.List.{List, [], ◌∷◌}
use Prim.Native.Nat.{ℕ, zero, suc, ◌≤◌, ◌<◌, min}
use native.Mathlib.Omega.{arith}
use lib.ListN.{length, get_or}
use Rattle.index.specs.State.{least}

pub least-low : (m : ℕ) (ns : List ℕ) → least m ns ≤ m
unfolding least
least-low m [] = omega arith
least-low m (n ∷ ns) = omega (arith, least-low (min m n) ns)

pub least-each : (m : ℕ) (ns : List ℕ) (i : ℕ) → i < length ns → least m ns ≤ get_or ns i 0
unfolding least
least-each m [] i l = absurd (omega arith)
least-each m (n ∷ ns) zero l = omega (arith, least-low (min m n) ns)
least-each m (n ∷ ns) (suc i) l = least-each (min m n) ns i (omega arith)

pub least-none : (m n : ℕ) (ns : List ℕ) → n ≡ 0 → least m (n ∷ ns) ≡ 0
unfolding least
least-none m n ns e = omega (arith, e, least-low (min m n) ns)
