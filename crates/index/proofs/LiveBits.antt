-- Words of live marks: each call gives what it gave with one mark a slot, and leaves no bit set past the slots in use.
use mathlib.Core.Path.{◌≡◌, refl, sym, ap, subst, ◌∙◌}
use mathlib.Core.Bool.{Bool, true, false}
use mathlib.Core.List.{List, [], map}
use Prim.Native.Nat.{ℕ, zero, suc}
use native.Mathlib.Omega.{arith}
use lib.ListN.{length-map}
use lib.Dec.{T}
use Rattle.lists.specs.Lists.{over}
use Rattle.lists.proofs.Front.{take-over}
use Rattle.marks.specs.Live.{no_marks}
use Rattle.encode.specs.declared.Header.{Header}
use Rattle.index.specs.declared.Index.{Index}
use Rattle.index.specs.Verdict.{granted}
use Rattle.index.specs.Arrays.{Arrays, unmarked}
use Rattle.index.specs.State.{Slot, State, header_of, capacity, state_of, record_of, alive_of, overlay}
use Rattle.index.specs.Fit.{fit_by_mark, none_from, fit}
use Rattle.index.specs.Step.{Op, step, accepted}
use Rattle.index.specs.Call.{call}
use Rattle.index.specs.Make.{empty, Begun, begun, begun_unless, make_refusal, make}
use Rattle.index.specs.Read.{state_in, slots_in, read_refusal, read_into}
use Rattle.index.specs.LiveBits.{call_by_mark, make_by_mark, read_by_mark, SameArrays, SameBegun, SameResult, AsWithOneMark, NoneSetPast}
use Rattle.index.proofs.Fits.{fitting, none_over, none-laid}
use Rattle.index.proofs.Read.{record_in, is_made, read_fits}

same-arrays : (n : ℕ) (a : Arrays) → SameArrays n a a
same-arrays n a = record { codes = refl; scales = refl; keys = refl; keyed = refl; held = refl; alive = refl; codes2 = refl; scales2 = refl; years = refl }

-- slots over arrays in which none is marked, and over the same arrays as they were
laid_same : (s : State) (a : Arrays) → SameArrays (record_of s).n (overlay (unmarked a) s.slots) (overlay a s.slots)
unfolding record_of overlay
laid_same s a =
    let ms = map (λ (t : Slot). alive_of t.mark) s.slots in
    let many = sym (length-map s.slots (λ t. alive_of t.mark)) in
    record { codes = refl; scales = refl; keys = refl; keyed = refl; held = refl; alive = take-over ms (no_marks a.alive) _ many ∙ sym (take-over ms a.alive _ many); codes2 = refl; scales2 = refl; years = refl }

module _ (x : Index) (a : Arrays) (op : Op) where
  calls_same : none_from x.n a.alive ≡ true → SameResult (call x a op) (call_by_mark x a op)
  unfolding call call_by_mark fit
  calls_same e = go (fit_by_mark x a) refl
    where
      go : (b : Bool) → fit_by_mark x a ≡ b → SameResult (call x a op) (call_by_mark x a op)
      go false f = rw f (record { answer = refl; index = refl; arrays = same-arrays x.n a })
      go true f = rw (f, e) (record { answer = refl; index = refl; arrays = laid_same (step (capacity (header_of x) a) (state_of x a) op).state a })

  none-set : accepted (call x a op).answer ≡ true → none_from (call x a op).index.n (call x a op).arrays.alive ≡ true
  unfolding call
  none-set e = go (fit x a) refl
    where
      go : (b : Bool) → fit x a ≡ b → none_from (call x a op).index.n (call x a op).arrays.alive ≡ true
      go false f = absurd (subst T (sym (rw f at e)) tt)
      go true f = rw f (none-laid (step (capacity (header_of x) a) (state_of x a) op).state a)

none_made : (n : ℕ) (h : Header) (a : Arrays) (x : Index) (b : Arrays) → begun_unless n (record_of (empty h)) a (unmarked a) ≡ begun (granted x) b →
    none_from x.n b.alive ≡ true
unfolding record_of over
none_made zero h a x b e =
    subst (λ (c : Begun). none_from (record_in x c.answer).n c.arrays.alive ≡ true) e (none_over [] a.alive)
none_made (suc n) h a x b e = absurd (omega (arith, ap (λ (c : Begun). is_made c.answer) e))

none_read : (a : Arrays) (file : List ℕ) (x : Index) (b : Arrays) → read_into a file ≡ begun (granted x) b → none_from x.n b.alive ≡ true
none_read a file x b e =
    subst (λ (c : Arrays). none_from x.n c.alive ≡ true) (ap (λ (c : Begun). c.arrays) e)
    (fitting x (read_into a file).arrays (read_fits a file x (ap (λ (c : Begun). c.answer) e))).clear

pub none-set-past : NoneSetPast
unfolding make
none-set-past = record { calls = none-set; makings = λ h a. none_made (make_refusal h a) h a; readings = none_read }

-- making and reading, by their refusal
begun-same : (n : ℕ) (x : Index) (a b c : Arrays) → SameArrays x.n b c → SameBegun (begun_unless n x a b) (begun_unless n x a c)
begun-same zero x a b c e = record { answer = refl; arrays = e }
begun-same (suc n) x a b c e = record { answer = refl; arrays = refl }

made-same : (h : Header) (a : Arrays) → SameArrays (record_of (empty h)).n (unmarked a) a
unfolding record_of
made-same h a = record { codes = refl; scales = refl; keys = refl; keyed = refl; held = refl; alive = refl; codes2 = refl; scales2 = refl; years = refl }

read_same : (a : Arrays) (file : List ℕ) → SameArrays (record_of (state_in file)).n (overlay (unmarked a) (slots_in file)) (overlay a (slots_in file))
unfolding state_in
read_same a file = laid_same (state_in file) a

pub as-with-one-mark : AsWithOneMark
unfolding make make_by_mark read_into read_by_mark
as-with-one-mark =
    record {
      calls = calls_same;
      makings = λ h a. begun-same (make_refusal h a) (record_of (empty h)) a (unmarked a) a (made-same h a);
      readings = λ a file. begun-same (read_refusal file a) (record_of (state_in file)) a (overlay (unmarked a) (slots_in file)) (overlay a (slots_in file)) (read_same a file);
    }
