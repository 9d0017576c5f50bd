-- The passes over a whole list, block after block.
use mathlib.Core.List.{List, ◌++◌, append_assoc, append-nil}
use mathlib.Core.Path.{◌≡◌, sym, ap, ◌∙◌}
use Prim.Native.Nat.{ℕ, ◌+◌, ◌-◌, ◌*◌, ◌^◌, ◌≤◌, ◌<◌}
use native.Mathlib.Nat.{le_antisymm}
use native.Mathlib.Omega.{arith}
use borrow.Rule.Slice.PartMut.{mid_of, put_mid}
use lib.ListN.{length, take, drop, length-append, length-drop}
use lib.Seq.{length-take-le, take_at, drop_at, drop-drop, take-add, take-length, drop-length}
use Rattle.fwht.specs.InPlace.{Blocks, spans}
use Rattle.fwht.proofs.Passes.{block-fits, spans-length, spans-nil, spans-append}

module _ {A : Type 0} (d : A) (plus minus : A → A → A) (k h : ℕ) where
  -- w is v after k passes from the span h on in its first i places, which are whole blocks
  pub record Walked (i : ℕ) (v w : List A) : Type 0 where
    pub count : (b : ℕ) × (i ≡ b * (2 ^ k * h))
    pub within : i ≤ length v
    pub work : w ≡ spans d plus minus h k (take i v) ++ drop i v

  pub walked_none : (v : List A) → Walked 0 v v
  walked_none v = record { count = (0, omega arith); within = omega arith; work = ap (λ (l : List A). l ++ v) (sym (spans-nil d plus minus k h)) }

  module _ (i : ℕ) (v w : List A) (s : Walked i v w) where
    abbrev front : List A
    front = spans d plus minus h k (take i v)

    front_length : length front ≡ i
    front_length = spans-length d plus minus k h (take i v) ∙ length-take-le i v s.within

    pub walked-length : length w ≡ length v
    walked-length = ap length s.work ∙ simp (length-append, length-drop) (omega (arith, front_length, s.within))

    -- the next block, which the program counts as p * h places
    module _ (p : ℕ) (places : p ≡ 2 ^ k) (b : Blocks (2 ^ k * h) (length v)) (l : i < length v) where
      abbrev size : ℕ
      size = i + p * h - i

      size_is : size ≡ 2 ^ k * h
      size_is = rw places (omega arith)

      pub walked_fits : i + p * h ≤ length w
      walked_fits = rw (places, walked-length) (omega (arith, s.count.1, block-fits (2 ^ k * h) s.count.0 b.count.0 (length v) b.count.1 (omega (arith, s.count.1))))

      pub walked_more : (part : List A) → part ≡ spans d plus minus h k (mid_of i size w) → Walked (i + p * h) v (put_mid i size w part)
      walked_more part q =
          let ends : drop i w ≡ drop i v = ap (drop i) s.work ∙ drop_at front (drop i v) i front_length in
          let starts : take i w ≡ front = ap (take i) s.work ∙ take_at front (drop i v) i front_length in
          let positive : 0 < h = grind (arith, b.positive) in
          record {
            count = (s.count.0 + 1, rw places (omega (arith, s.count.1)));
            within = omega (arith, walked_fits, walked-length);
            work =
                rw (q, ends, starts, drop-drop, size_is, ← append_assoc, places)
                (ap (λ (a : List A). a ++ drop (i + 2 ^ k * h) v)
                (sym (spans-append d plus minus k h s.count.0 (take i v) (take (2 ^ k * h) (drop i v)) positive (length-take-le i v s.within ∙ s.count.1))
                ∙ ap (spans d plus minus h k) (sym (take-add i (2 ^ k * h) v))));
          }

    pub walked_all : length v ≤ i → w ≡ spans d plus minus h k v
    walked_all l =
        let e : i ≡ length v = le_antisymm s.within l in
        s.work ∙ rw (e, take-length, drop-length) (append-nil (spans d plus minus h k v))
