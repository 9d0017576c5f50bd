-- Small steps: parts read and written entry by entry, bytes as a number, a slot's entry.
use mathlib.Core.Path.{◌≡◌, sym, ap, ◌∙◌}
use mathlib.Core.Bool.{Bool, true, false}
use mathlib.Core.List.{List, ◌++◌, append_assoc}
use Prim.Native.Nat.{ℕ, ◌+◌, ◌-◌, ◌*◌, ◌≤◌}
use native.Mathlib.Omega.{arith}
use borrow.Author.Tests.{eq-eqb, ne_eqb}
use borrow.Rule.Slice.PartMut.{put_mid}
use lib.ListN.{length, take, drop, get_or, length-drop}
use lib.Seq.{sets, sets-eq, length-take-le, get_or-take, get_or-drop}
use lib.Ieee.{Float, binary32, of_bits}
use Rattle.std.proofs.lemmas.List.{drop-drop}
use Rattle.pattern.specs.Binary32.{◌⊕◌}
use Rattle.lists.specs.Lists.{tab}
use Rattle.lists.proofs.Laws.{tab-ext}
use Rattle.lists.proofs.Entries.{entries}
use Rattle.digits.specs.Digits.{number}
use Rattle.score.specs.Lanes.{bracketed}
use Rattle.scan.specs.Scan.{score_after}
use Rattle.scan.specs.Groups.{part_at, raw_from}

-- ---- bytes as a number

part-entries : {A : Type 0} (d : A) (n at : ℕ) (l : List A) → at + n ≤ length l → tab (λ i. get_or l (at + i) d) n ≡ take n (drop at l)
part-entries d n at l h =
    let long : n ≤ length (drop at l) = rw (length-drop at l) (omega arith) in
    sym (entries (take n (drop at l)) d n (length-take-le n (drop at l) long)
    ∙ tab-ext _ _ n (λ i k. get_or-take n (drop at l) i d k ∙ get_or-drop at l i d))

module _ (l : List ℕ) (at : ℕ) where
  abbrev b : ℕ → ℕ
  b i = get_or l (at + i) 0

  pub number-at : (n : ℕ) → at + n ≤ length l → number 256 (take n (drop at l)) ≡ number 256 (tab b n)
  number-at n h = ap (number 256) (sym (part-entries 0 n at l h))

-- ---- a part written

pub put-is : {A : Type 0} → (at k : ℕ) (l vs : List A) → length vs ≡ k → at + k ≤ length l → put_mid at (at + k - at) l vs ≡ sets l at vs
put-is {A} at k l vs e h =
    let n : at + k - at ≡ length vs = omega arith in
    ap (λ (z : List A). take at l ++ (vs ++ z)) (ap (λ (m : ℕ). drop m (drop at l)) n ∙ drop-drop (length vs) at l)
    ∙ sym (sets-eq vs l at (omega arith) ∙ append_assoc (take at l) vs (drop (at + length vs) l))

-- ---- the raw score of a slot of a group

module _ (w : ℕ) (sums : List Float) (k : ℕ) (acc : List Float) (x : Float) where
  pub raw-eight : w ≡ 4 → acc ≡ take 8 (drop (k * 8) sums) → x ≡ bracketed 3 acc → x ⊕ of_bits binary32 0 ≡ raw_from w sums k
  unfolding raw_from part_at of_bits
  raw-eight e f g = rw (eq-eqb w 4 e, g, f)

  pub raw-four : (w ≡ 4 → ⊥) → acc ≡ take 4 (drop (k * 4) sums) → x ≡ bracketed 2 acc → x ≡ raw_from w sums k
  unfolding raw_from part_at
  raw-four n f g = rw (ne_eqb w 4 n, g, f)

-- ---- a slot's entry

module _ (marked second : Bool) (old : Float) where
  pub entry-unmarked : (score : Float) → marked ≡ false → old ≡ score_after marked second score old
  unfolding score_after
  entry-unmarked score e = rw e

  pub entry-marked : (score score' x : Float) → marked ≡ true → x ≡ score_after true second score old → score ≡ score' → x ≡ score_after marked second score' old
  entry-marked score score' x m e f = rw (m, ← f) e

-- ---- the part of a slot, by where it begins and ends

pub part-is : {A : Type 0} (size slot : ℕ) (xs : List A) → take (slot * size + size - slot * size) (drop (slot * size) xs) ≡ part_at size slot xs
unfolding part_at
part-is size slot xs = ap (λ (z : ℕ). take z (drop (slot * size) xs)) {x = slot * size + size - slot * size} {y = size} (omega arith)
