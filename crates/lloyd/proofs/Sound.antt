-- The rule of a pair of tables: what its test says at each entry.
use mathlib.Core.Path.{◌≡◌, refl}
use Prim.Native.Nat.{ℕ, zero, suc, ◌+◌, ◌<◌}
use native.Mathlib.Nat.{le_of_suc-le-suc, not-suc-le-zero, add_comm}
use native.Mathlib.Omega.{arith}
use mathlib.Core.Bool.{Bool, true, false, ◌&&◌}
use mathlib.Core.List.{List, [], ◌∷◌}
use lib.Dec.{T, eqb→eq}
use lib.ListN.{length, drop, get_or, length-drop}
use lib.Seq.{get_or-drop}
use lib.Ieee.{Float, nan, lt}
use Rattle.lloyd.specs.Sound.{all_below, conditions, sound, SoundTables}
use Rattle.lists.specs.Keep.{every}

pub both : (a b : Bool) → T (a && b) → T a × T b
both true b t = (tt, t)
both false b t = absurd t

holds : (b : Bool) → T b → b ≡ true
holds true t = refl
holds false t = absurd t

each : (ts : List Bool) → T (every ts) → (i : ℕ) → T (get_or ts i true)
unfolding every
each [] h i = tt
each (t ∷ ts) h zero = (both t (every ts) h).0
each (t ∷ ts) h (suc i) = each ts (both t (every ts) h).1 i

below_at : (xs ys : List Float) → T (all_below xs ys) → (i : ℕ) → i < length xs → i < length ys
    → lt (get_or xs i nan) (get_or ys i nan) ≡ true
unfolding all_below
below_at [] ys t i h k = absurd (not-suc-le-zero h)
below_at (x ∷ xs) [] t i h k = absurd (not-suc-le-zero k)
below_at (x ∷ xs) (y ∷ ys) t zero h k = holds (lt x y) (both (lt x y) (all_below xs ys) t).0
below_at (x ∷ xs) (y ∷ ys) t (suc i) h k =
    below_at xs ys (both (lt x y) (all_below xs ys) t).1 i (le_of_suc-le-suc h) (le_of_suc-le-suc k)

below_next : (xs ys : List Float) → T (all_below xs (drop 1 ys)) → (i : ℕ) → i < length xs → i + 1 < length ys
    → lt (get_or xs i nan) (get_or ys (i + 1) nan) ≡ true
below_next xs ys t i h k =
    rw (add_comm i 1, ← get_or-drop 1 ys i nan) (below_at xs (drop 1 ys) t i h (rw length-drop (omega arith)))

pub sound-at : (boundaries centroids : List Float) → T (sound boundaries centroids) → SoundTables boundaries centroids
unfolding sound conditions
sound-at bs cs t =
    let h = each (conditions bs cs) t in
    let n : length cs ≡ length bs + 1 = eqb→eq (length cs) (length bs + 1) (h 0) in
    record {
      count = n;
      boundaries-rise = λ i l. below_next bs bs (h 1) i (omega arith) l;
      centroids-rise = λ i l. below_next cs cs (h 2) i (omega arith) l;
      above-its-centroid = λ i l. below_at cs bs (h 3) i (omega arith) l;
      below-the-next = λ i l. below_next bs cs (h 4) i l (omega arith);
    }
