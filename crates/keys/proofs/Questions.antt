-- The call of a key question: refused by the first test, or else what is asked of the value.
use mathlib.Core.Path.{◌≡◌, refl, sym, ap}
use mathlib.Core.Bool.{Bool, true, false, cond}
use mathlib.Core.Option.{Option, none, some}
use Prim.Native.Nat.{ℕ}
use lib.ListN.{get_elem?}
use Rattle.std.specs.Bool.{then_some}
use Rattle.index.specs.declared.Index.{Index}
use Rattle.index.specs.Arrays.{Arrays}
use Rattle.index.specs.State.{state_of}
use Rattle.index.specs.Fit.{fit}
use Rattle.index.specs.Step.{Op, key_of, contains, slot_of, refused, flag, maybe_slot, maybe_key, live_from, is_held, slot_holding, key_answer, answered, step}
use Rattle.index.specs.Call.{call}
use Rattle.index.specs.Verdict.{granted}
use Rattle.index.specs.Answers.{result_of, key_is, asked, held_is}
use Rattle.index.proofs.Calls.{call-misfit, call-answered}

-- ---- the first test

pub misfits : (x : Index) (a : Arrays) → fit x a ≡ false → (op : Op) → result_of x a (refused 13) ≡ call x a op
misfits x a e op = sym (call-misfit x a op e)

-- ---- the questions

module _ (x : Index) (a : Arrays) (e : fit x a ≡ true) where
  key-asked : (i : ℕ) (k : Option ℕ) → key_answer (get_elem? (state_of x a).slots i) ≡ k → result_of x a (maybe_key k) ≡ call x a (key_of i)
  unfolding step
  key-asked i k f = sym (call-answered x a (key_of i) e (maybe_key k) (ap (λ (o : Option ℕ). answered (state_of x a) (maybe_key o)) f))

  pub held-asked : (j : ℕ) (b : Bool) → is_held j (live_from 0 (state_of x a).slots) ≡ b → result_of x a (asked (granted b)) ≡ call x a (contains j)
  unfolding step
  held-asked j true f = sym (call-answered x a (contains j) e (flag true) (ap (λ (t : Bool). answered (state_of x a) (flag t)) f))
  held-asked j false f = sym (call-answered x a (contains j) e (flag false) (ap (λ (t : Bool). answered (state_of x a) (flag t)) f))

  slot-asked : (j p : ℕ) (i : Option ℕ) → slot_holding j p (live_from 0 (state_of x a).slots) ≡ i → result_of x a (maybe_slot i) ≡ call x a (slot_of j p)
  unfolding step
  slot-asked j p i f = sym (call-answered x a (slot_of j p) e (maybe_slot i) (ap (λ (o : Option ℕ). answered (state_of x a) (maybe_slot o)) f))

  -- ---- answers that are there where a test passes

  pub key-if : (i k : ℕ) (b : Bool) → key_answer (get_elem? (state_of x a).slots i) ≡ cond b (some k) none →
      result_of x a (key_is (granted (then_some b k))) ≡ call x a (key_of i)
  key-if i k true f = key-asked i (some k) f
  key-if i k false f = key-asked i none f

  pub slot-if : (j p i : ℕ) (b : Bool) → (b ≡ true → slot_holding j p (live_from 0 (state_of x a).slots) ≡ some i) →
      (b ≡ false → slot_holding j p (live_from 0 (state_of x a).slots) ≡ none) → result_of x a (held_is (granted (then_some b i))) ≡ call x a (slot_of j p)
  slot-if j p i true f g = slot-asked j p (some i) (f refl)
  slot-if j p i false f g = slot-asked j p none (g refl)
