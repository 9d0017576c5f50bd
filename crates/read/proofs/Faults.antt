-- The refusals in their order.
use mathlib.Core.Path.{◌≡◌, refl}
use mathlib.Core.Bool.{true, false}
use mathlib.Core.List.{List, ◌∷◌}
use Prim.Native.Nat.{ℕ, zero, suc, ◌≤◌, ◌<◌}
use borrow.Author.Tests.{lt-ltb, le-ltb}
use Rattle.index.specs.declared.Index.{Index}
use Rattle.index.specs.Verdict.{granted, turned_down}
use Rattle.index.specs.Arrays.{Arrays, unmarked}
use Rattle.index.specs.State.{capacity, record_of, overlay}
use Rattle.index.specs.Step.{first_of}
use Rattle.index.specs.Read.{count_in, header_in, head_fault, over_limits, slots_in, state_in, read_refusal, read_into}
use Rattle.index.proofs.Kept.{when-none}
use Rattle.index.proofs.Read.{all-passed}
use Rattle.read.specs.Parts.{body_fault}
use Rattle.index.specs.Make.{begun}
use Rattle.index.proofs.Make.{begun-granted, begun-refused}

first_some : (n : ℕ) (ns : List ℕ) → (n ≡ 0 → ⊥) → n ≡ first_of (n ∷ ns)
unfolding first_of
first_some zero ns h = absurd (h refl)
first_some (suc n) ns h = refl

module _ (file : List ℕ) (a : Arrays) where
  pub fault-head : (head_fault file ≡ 0 → ⊥) → head_fault file ≡ read_refusal file a
  unfolding read_refusal
  fault-head h = first_some (head_fault file) _ h

  module _ (head : head_fault file ≡ 0) where
    pub fault-limits : over_limits file ≡ true → 20 ≡ read_refusal file a
    unfolding read_refusal first_of
    fault-limits e = rw (head, e)

    module _ (low : over_limits file ≡ false) where
      pub fault-room : capacity (header_in file) a < count_in file → 20 ≡ read_refusal file a
      unfolding read_refusal first_of
      fault-room l = rw (head, low, lt-ltb (capacity (header_in file) a) (count_in file) l)

      pub fault-body : count_in file ≤ capacity (header_in file) a → body_fault file ≡ read_refusal file a
      unfolding read_refusal first_of body_fault
      fault-body l = rw (head, low, le-ltb (capacity (header_in file) a) (count_in file) l)

  pub passed-head : read_refusal file a ≡ 0 → (head_fault file ≡ 0) × (over_limits file ≡ false)
  unfolding read_refusal
  passed-head e = let t = all-passed _ e in (t.0, when-none (over_limits file) 19 t.1.0)

  -- a file that is not refused, and one that is
  pub read_all : read_refusal file a ≡ 0 → (x : Index) (b : Arrays) → x ≡ record_of (state_in file) → b ≡ overlay (unmarked a) (slots_in file) →
      begun (granted x) b ≡ read_into a file
  unfolding read_into
  read_all e x b f g = begun-granted _ _ _ _ e x b f g

  pub read_none : (n : ℕ) → n ≡ read_refusal file a → (n ≡ 0 → ⊥) → begun (turned_down n) a ≡ read_into a file
  unfolding read_into
  read_none n e h = begun-refused _ _ _ n _ e h
