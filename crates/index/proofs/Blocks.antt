-- Blocks of one size, one after the other in an array.
use mathlib.Core.Path.{◌≡◌, refl, sym, ◌∙◌}
use mathlib.Core.List.{List, [], ◌∷◌, ◌++◌, append_assoc, append-nil}
use Prim.Native.Nat.{ℕ, zero, suc, ◌+◌, ◌*◌, ◌≤◌, ◌<◌}
use native.Mathlib.Nat.{suc-mul, zero-mul, mul-le-mul_right}
use native.Mathlib.Omega.{arith}
use lib.ListN.{length, take, drop, get_or, length-append, length-drop}
use lib.Seq.{take-add, take_at, length-take-le, drop-append-add}
use borrow.Author.Tests.{le-leb}
use Rattle.lists.specs.Lists.{tab, over, joined}
use Rattle.lists.specs.Keep.{Each}
use Rattle.lists.proofs.Laws.{length_over}
use Rattle.lists.proofs.Front.{over-front}
use Rattle.codes.specs.Slots.{block_at}

pub joined-append : (bs cs : List (List ℕ)) → joined (bs ++ cs) ≡ joined bs ++ joined cs
unfolding joined
joined-append [] cs = refl
joined-append (b ∷ bs) cs = rw (joined-append bs cs) (sym (append_assoc b (joined bs) (joined cs)))

module _ (w : ℕ) where
  -- ---- the blocks that an array has

  pub block-there : (i : ℕ) (xs : List ℕ) → i * w + w ≤ length xs → block_at w i xs ≡ take w (drop (i * w) xs)
  unfolding block_at
  block-there i xs h = rw (le-leb _ _ h)

  pub length-block : (i : ℕ) (xs : List ℕ) → i * w + w ≤ length xs → length (block_at w i xs) ≡ w
  length-block i xs h = rw (block-there i xs h) (length-take-le w (drop (i * w) xs) (rw (length-drop (i * w) xs) (omega arith)))

  pub joined-blocks : (n : ℕ) (xs : List ℕ) → n * w ≤ length xs → joined (tab (λ i. block_at w i xs) n) ≡ take (n * w) xs
  unfolding joined
  joined-blocks zero xs h = rw (zero-mul w)
  joined-blocks (suc n) xs h =
      let l : n * w + w ≤ length xs = omega (arith, suc-mul n w) in
      joined-append (tab (λ i. block_at w i xs) n) (block_at w n xs ∷ []) ∙ rw (joined-blocks n xs (omega arith), append-nil, block-there n xs l, suc-mul n w, take-add (n * w) w xs)

  -- over themselves they change nothing
  pub over-blocks : (n : ℕ) (xs : List ℕ) → n * w ≤ length xs → over (joined (tab (λ i. block_at w i xs) n)) xs ≡ xs
  over-blocks n xs h = rw (joined-blocks n xs h) (over-front (n * w) xs h)

  -- ---- blocks written over an array

  abbrev pub Sized : List (List ℕ) → Type 0
  Sized bs = Each (λ b. length b ≡ w) bs

  pub length-joined : (bs : List (List ℕ)) → Sized bs → length (joined bs) ≡ length bs * w
  unfolding joined
  length-joined [] h = sym (zero-mul w)
  length-joined (b ∷ bs) h = rw (length-append b (joined bs), h.0, length-joined bs h.1, suc-mul (length bs) w) (omega arith)

  cut : (bs : List (List ℕ)) (rest : List ℕ) (i : ℕ) (d : List ℕ) → Sized bs → i < length bs → take w (drop (i * w) (joined bs ++ rest)) ≡ get_or bs i d
  unfolding joined
  cut [] rest i d h l = absurd (omega arith)
  cut (b ∷ bs) rest zero d h l = rw (zero-mul w, append_assoc b (joined bs) rest) (take_at b (joined bs ++ rest) w h.0)
  cut (b ∷ bs) rest (suc i) d h l =
      let e : suc i * w ≡ length b + i * w = omega (arith, suc-mul i w, h.0) in
      rw (e, append_assoc b (joined bs) rest, drop-append-add b (joined bs ++ rest) (i * w)) (cut bs rest i d h.1 (omega arith))

  module _ (bs : List (List ℕ)) (xs : List ℕ) (sized : Sized bs) (fits : length bs * w ≤ length xs) where
    pub length-over-blocks : length (over (joined bs) xs) ≡ length xs
    length-over-blocks = length_over (joined bs) xs (rw (length-joined bs sized) fits)

    pub block-over : (i : ℕ) (d : List ℕ) → i < length bs → block_at w i (over (joined bs) xs) ≡ get_or bs i d
    unfolding over
    block-over i d l =
        let m : suc i * w ≤ length bs * w = mul-le-mul_right w l in
        block-there i (over (joined bs) xs) (omega (arith, length-over-blocks, suc-mul i w)) ∙ cut bs (drop (length (joined bs)) xs) i d sized l
