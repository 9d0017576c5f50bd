-- The fast Walsh-Hadamard transform without scaling, over any type of entries with a sum and a difference. 01 (rhdh.rs): "`fwht`: spans 1, 2, 4 and on, each pair to sum and difference,
-- no scaling." A pair at the span h is two places h apart; each of them belongs to one pair only. d is what a list has past its end, which no pair of a list whose length is a power of
-- two reads.
use Rattle.std.specs.Prelude.{cond, List, ℕ, zero, suc, ◌+◌, ◌-◌, ◌/◌, ◌%◌, ◌^◌, eqb, length, get_or}
use Rattle.lists.specs.Lists.{tab}
use Rattle.padding.specs.Padded.{exponent, is_power_of_two}

module _ {A : Type 0} (d : A) (plus minus : A → A → A) where
  -- Place i after the pass at the span h. Of each 2 * h places the lower h are the first of a pair, where i / h is even, and get the sum; the upper h are the second and get the difference.
  unfoldable pub entry : ℕ → List A → ℕ → A
  entry h v i = cond (eqb (i / h % 2) 0) (plus (get_or v i d) (get_or v (i + h) d)) (minus (get_or v (i - h) d) (get_or v i d))

  -- every pair at the span h to its sum and its difference
  unfoldable pub pass : ℕ → List A → List A
  pass h v = tab (entry h v) (length v)

  -- the passes at the spans 1, 2, 4, .., 2 ^ (k - 1), in this order
  abbrev pub passes : ℕ → List A → List A
  passes zero v = v
  passes (suc k) v = pass (2 ^ k) (passes k v)

  -- the transform of a list whose length is a power of two; any other list is left as it is
  unfoldable pub fwht : List A → List A
  fwht v = cond (is_power_of_two (length v)) (passes (exponent (length v)) v) v
