-- The tables that are made once: a loop turn writes two places.
use mathlib.Core.Path.{◌≡◌, ◌∙◌}
use mathlib.Core.Logic.{◌≢◌}
use mathlib.Core.List.{List}
use Prim.Native.Nat.{ℕ, ◌+◌, ◌*◌, ◌/◌, ◌%◌, ◌^◌, ◌<◌}
use native.Mathlib.Omega.{arith}
use borrow.Author.Count.{below_more}
use lib.ListN.{length, get_or, set, length-set}
use lib.Seq.{get_or-set_same, get_or-set_other}
use lib.Ieee.{Float, nan}
use Rattle.scan.specs.Pairs.{Paired}

-- two neighbouring places written, and read again
abbrev two : List Float → ℕ → (low high : Float) → List Float
two l x a b = set (set l (x * 2) a) (x * 2 + 1) b

module _ (l : List Float) (x : ℕ) (a b : Float) (h : x * 2 + 1 < length l) where
  two-low : get_or (two l x a b) (x * 2) nan ≡ a
  two-low = get_or-set_other (set l (x * 2) a) (x * 2 + 1) (x * 2) b nan (λ e. omega arith) ∙ get_or-set_same l (x * 2) a nan (omega arith)

  two-high : get_or (two l x a b) (x * 2 + 1) nan ≡ b
  two-high = get_or-set_same (set l (x * 2) a) (x * 2 + 1) b nan (rw (length-set l (x * 2) a) h)

  two-other : (i : ℕ) → i ≢ x * 2 → i ≢ x * 2 + 1 → get_or (two l x a b) i nan ≡ get_or l i nan
  two-other i p q = get_or-set_other (set l (x * 2) a) (x * 2 + 1) i b nan q ∙ get_or-set_other l (x * 2) i a nan p

module _ (w : ℕ) (cs l : List Float) (x : ℕ) where
  pub paired-more : Paired w cs l x → x * 2 + 1 < length l → Paired w cs (two l x (get_or cs (x % 2 ^ w) nan) (get_or cs (x / 2 ^ w) nan)) (x + 1)
  paired-more p h =
      record {
        low = below_more _ _ (λ y k. two-other l x _ _ h (y * 2) (λ e. omega arith) (λ e. omega arith) ∙ p.low y k) (two-low l x _ _ h);
        high = below_more _ _ (λ y k. two-other l x _ _ h (y * 2 + 1) (λ e. omega arith) (λ e. omega arith) ∙ p.high y k) (two-high l x _ _ h);
      }

  -- with the levels as the program has them
  module _ (levels : ℕ) (is : levels ≡ 2 ^ w) where
    pub paired-next : Paired w cs l x → x * 2 + 1 < length l → Paired w cs (set (set l (x * 2) (get_or cs (x % levels) nan)) (x * 2 + 1) (get_or cs (x / levels) nan)) (x + 1)
    paired-next p h = rw is (paired-more p h)
