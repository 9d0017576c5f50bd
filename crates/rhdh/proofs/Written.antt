-- The signed entries, written one after the other.
use mathlib.Core.List.{List}
use mathlib.Core.Path.{◌≡◌, refl, sym, ap, ap₂, ◌∙◌}
use Prim.Native.Nat.{ℕ, ◌+◌, ◌≤◌, ◌<◌}
use native.Mathlib.Nat.{le_antisymm}
use native.Mathlib.Numerals.{add-one}
use native.Mathlib.Omega.{arith}
use lib.Ieee as Ieee
use lib.Ieee.{Float, binary32}
use lib.ListN.{length, get_or, set}
use Rattle.lists.specs.Lists.{tab, over}
use Rattle.lists.proofs.Laws.{length-tab, zip-tab, length_over, over-all, over-more}
use Rattle.signs.specs.Signs.{start, next_state, output, sign, state, sign_at, signs}
use Rattle.pattern.specs.Binary32.{+0}
use Rattle.rhdh.specs.Rotation.{pad_to, signed}

-- entry i times its sign
pub signed_entry : List Float → ℕ → ℕ → Float
signed_entry v seed i = Ieee.mul binary32 (get_or v i +0) (sign_at seed i)

signed-tab : (n seed : ℕ) (v : List Float) → signed n seed v ≡ tab (signed_entry v seed) n
unfolding signed pad_to signs signed_entry
signed-tab n seed v = zip-tab (Ieee.mul binary32) (λ i. get_or v i +0) (sign_at seed) n

pub signed-length : (n seed : ℕ) (v : List Float) → length (signed n seed v) ≡ n
signed-length n seed v = ap length (signed-tab n seed v) ∙ length-tab (signed_entry v seed) n

-- `out` is `o` with the first i signed entries over it, and s is the state of the stream after as many steps
pub record Written (v : List Float) (seed : ℕ) (o out : List Float) (s i : ℕ) : Type 0 where
  pub within : i ≤ length o
  pub stream : s ≡ state seed i
  pub work : out ≡ over (tab (signed_entry v seed) i) o

pub written_none : (v : List Float) (seed : ℕ) (o : List Float) (s : ℕ) → s ≡ start seed → Written v seed o o s 0
unfolding over
written_none v seed o s e = record { within = omega arith; stream = e; work = refl }

module _ (v : List Float) (seed : ℕ) (o out : List Float) (s i : ℕ) (w : Written v seed o out s i) where
  pub written-length : length out ≡ length o
  written-length = ap length w.work ∙ length_over _ o (rw length-tab w.within)

  pub written_more : (x g : Float) (t : ℕ) → i < length o → x ≡ get_or v i +0 → t ≡ next_state s → g ≡ sign (output (next_state s))
      → Written v seed o (set out i (Ieee.mul binary32 x g)) t (i + 1)
  unfolding signed_entry sign_at
  written_more x g t l e f k =
      record {
        within = omega arith;
        stream = rw (add-one i) (f ∙ ap next_state w.stream);
        work = ap₂ (λ (a : List Float) (b : Float). set a i b) w.work (ap₂ (Ieee.mul binary32) e (k ∙ ap (λ (z : ℕ). sign (output (next_state z))) w.stream)) ∙ over-more (signed_entry v seed) i o l;
      }

  pub written_all : length o ≤ i → out ≡ signed (length o) seed v
  written_all l =
      let e : i ≡ length o = le_antisymm w.within l in
      w.work ∙ over-all _ o (length-tab _ i ∙ e) ∙ ap (tab (signed_entry v seed)) e ∙ sym (signed-tab (length o) seed v)
