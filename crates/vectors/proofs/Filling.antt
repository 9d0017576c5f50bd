-- A loop that fills an array from the front, one entry a turn.
use mathlib.Core.Path.{◌≡◌, refl, sym, ap, ◌∙◌}
use mathlib.Core.List.{List, ◌++◌, append-nil}
use Prim.Native.Nat.{ℕ, suc, ◌+◌, ◌≤◌, ◌<◌}
use native.Mathlib.Numerals.{add-one}
use native.Mathlib.Omega.{arith}
use lib.ListN.{length, take, drop, get_or, set, length-set, length-map, get_or-map, drop_of_length-le}
use lib.Seq.{length-take-le, take_all, take-suc, drop-cons, append_snoc, set_at, get_or_at}
use lib.Ieee.{Float, nan, div}
use Rattle.pattern.specs.Binary32.{◌⊘◌}
use Rattle.vectors.specs.Vectors.{divided}

module _ {A : Type 0} (target start : List A) where
  -- the first i places hold the target's entries, the others what they held at the start
  pub record Filled (out : List A) (i : ℕ) : Type 0 where
    pub within : i ≤ length target
    pub same : length start ≡ length target
    pub size : length out ≡ length start
    pub places : out ≡ take i target ++ drop i start

  pub filled_none : length start ≡ length target → Filled start 0
  filled_none same = record { within = omega arith; same = same; size = refl; places = refl }

  module _ (out : List A) (i : ℕ) (inv : Filled out i) where
    module _ (z : A) (h : i < length target) where
      -- an entry that is not yet written is as it was
      pub filled-rest : get_or out i z ≡ get_or start i z
      filled-rest =
          rw (inv.places, drop-cons start i z (omega arith))
          (get_or_at (take i target) (get_or start i z) (drop (suc i) start) z i (length-take-le i target inv.within))

      pub filled_next : (x : A) → x ≡ get_or target i z → Filled (set out i x) (i + 1)
      filled_next x e = record {
        within = omega arith;
        same = inv.same;
        size = length-set out i x ∙ inv.size;
        places =
            rw (inv.places, drop-cons start i z (omega arith), set_at (take i target) (get_or start i z) (drop (suc i) start) x i (length-take-le i target inv.within), add-one i, take-suc target i z h, e)
            (sym (append_snoc (take i target) (get_or target i z) (drop (suc i) start)));
      }

    pub filled-all : length target ≤ i → out ≡ target
    filled-all h = rw (inv.places, take_all i target h, drop_of_length-le start {i = i} (omega (arith, inv.same))) (append-nil target)

-- ---- entries divided in place

pub length-divided : (by : Float) (xs : List Float) → length (divided by xs) ≡ length xs
unfolding divided
length-divided by xs = length-map xs _

pub divided-none : (by : Float) (xs : List Float) → Filled (divided by xs) xs xs 0
divided-none by xs = filled_none (divided by xs) xs (sym (length-divided by xs))

module _ (by : Float) (xs out : List Float) (i : ℕ) (inv : Filled (divided by xs) xs out i) where
  pub divided-next : i < length xs → Filled (divided by xs) xs (set out i (get_or out i nan ⊘ by)) (i + 1)
  unfolding divided div
  divided-next h =
      let l : i < length (divided by xs) = rw (length-divided by xs) h in
      filled_next (divided by xs) xs out i inv nan l _
      (ap (λ x. x ⊘ by) (filled-rest (divided by xs) xs out i inv nan l) ∙ sym (get_or-map (λ (x : Float). x ⊘ by) xs i nan))

  pub divided-all : length xs ≤ i → out ≡ divided by xs
  divided-all h = filled-all (divided by xs) xs out i inv (rw (length-divided by xs) h)
