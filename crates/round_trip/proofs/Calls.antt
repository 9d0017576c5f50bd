-- What the types say is enough for the byte form to hold the index: what a call wrote is read.
use mathlib.Core.Path.{◌≡◌, refl, sym, ap, ◌∙◌, subst}
use mathlib.Core.Bool.{Bool, true, false, cond}
use mathlib.Core.List.{List, [], ◌∷◌, map}
use mathlib.Core.Option.{none, some}
use Prim.Native.Nat.{ℕ, zero, suc, ◌+◌, ◌^◌, ◌≤◌, ◌<◌, min}
use native.Mathlib.Omega.{arith}
use lib.ListN.{length, get_or, length-map}
use lib.Dec.{ltb}
use Rattle.lists.specs.Keep.{bit, count, Each}
use Rattle.lists.proofs.Keep.{each_weaken, each_both, count-length}
use Rattle.lists.proofs.Front.{each_map, each-tab}
use Rattle.index.specs.declared.Index.{Index}
use Rattle.index.specs.Verdict.{granted}
use Rattle.index.specs.Arrays.{Arrays, unmarked}
use Rattle.index.specs.State.{Slot, State, live, header_of, rooms, least, capacity, mark_of, stage_at, slot_at, state_of, record_of, overlay}
use Rattle.index.specs.Fit.{fit}
use Rattle.index.specs.Step.{refused, bytes, unless, when, Cell, live_from, key_of_mark, entry_of, file_bytes, write, step}
use Rattle.index.specs.Call.{Result, call}
use Rattle.index.specs.Sound.{Shaped, Sound}
use Rattle.index.specs.Read.{state_in, read_refusal, read_into, slots_in}
use Rattle.index.proofs.Fits.{fit-sound, record-self}
use Rattle.index.proofs.Calls.{call-misfit, call_fits}
use Rattle.index.proofs.Read.{read-value}
use Rattle.round_trip.specs.Back.{PatternLow, KeyLow, Holdable, Writable, saved, Typed, Opens, WrittenIsRead}
use Rattle.round_trip.proofs.Back.{accepted-back}
use Rattle.round_trip.proofs.Compacted.{read-written}
use Rattle.index.specs.Make.{begun_unless}

low-capacity : (m : ℕ) (ns : List ℕ) → least m ns ≤ m
unfolding least
low-capacity m [] = omega arith
low-capacity m (n ∷ ns) = omega (arith, low-capacity (min m n) ns)

-- what holds of each slot holds of each live one
live-each : (P : Slot → Type 0) (i : ℕ) (ss : List Slot) → Each P ss → Each (λ c. P c.slot) (live_from i ss)
unfolding live_from
live-each P i [] h = tt
live-each P i (s ∷ ss) h = go (live s) (live-each P (suc i) ss h.1)
  where
    go : (b : Bool) → Each (λ c. P c.slot) (live_from (suc i) ss) →
        Each (λ c. P c.slot) (cond b (record { number = i; slot = s } ∷ live_from (suc i) ss) (live_from (suc i) ss))
    go true more = (h.0, more)
    go false more = more

live-length : (i : ℕ) (ss : List Slot) → length (live_from i ss) ≡ count live ss
unfolding live_from
live-length i [] = refl
live-length i (s ∷ ss) = go (live s) (live-length (suc i) ss)
  where
    go : (b : Bool) → length (live_from (suc i) ss) ≡ count live ss →
        length (cond b (record { number = i; slot = s } ∷ live_from (suc i) ss) (live_from (suc i) ss)) ≡ bit b + count live ss
    go true e = omega (arith, e)
    go false e = omega (arith, e)

-- ---- a record and arrays that fit have a byte form

module _ (x : Index) (a : Arrays) (t : Typed x a) where
  -- numbers that their fields hold
  abbrev Low : Slot → Type 0
  Low s = (s.code.first.scale < 2 ^ 32) × PatternLow s.code.second × KeyLow (key_of_mark s.mark) × (s.year < 2 ^ 16)

  slot-low : (i : ℕ) → Low (slot_at (header_of x) a i)
  unfolding slot_at
  slot-low i = (t.scales i, second x.residual, key (get_or a.alive i 0) (get_or a.keyed i false), t.years i)
    where
      second : (b : Bool) → PatternLow (cond b (some (stage_at (header_of x) a.scales2 a.codes2 i)) none)
      second true = t.scales2 i
      second false = tt

      key : (n : ℕ) (b : Bool) → KeyLow (key_of_mark (mark_of n b (get_or a.keys i 0) (get_or a.held i 0)))
      key zero b = tt
      key (suc n) false = tt
      key (suc n) true = t.keys i

  abbrev slots : List Slot
  slots = (state_of x a).slots

  abbrev cells : List Cell
  cells = live_from 0 slots

  module _ (f : fit x a ≡ true) where
    live-is : x.live ≡ length cells
    unfolding record_of
    live-is = ap (λ (y : Index). y.live) (sym (record-self x a f)) ∙ sym (live-length 0 slots)

    writable : Writable (header_of x) (map entry_of cells)
    unfolding state_of
    writable =
        let s : Sound (capacity (header_of x) a) (state_of x a) = fit-sound x a f in
        record {
          header = s.header;
          seed = t.seed;
          few = omega (arith, length-map cells entry_of, live-length 0 slots, count-length live slots, s.space, low-capacity 65536 (rooms (header_of x) a));
          entries =
              each_map (Holdable (header_of x)) entry_of cells
              (live-each (λ s. Holdable (header_of x) (record { code = s.code; key = key_of_mark s.mark; year = s.year })) 0 slots
              (each_weaken (λ s. Shaped (header_of x) s.code × Low s) (λ s. Holdable (header_of x) (record { code = s.code; key = key_of_mark s.mark; year = s.year })) slots
              (λ s p. record { shape = p.0; scale = p.1.0; scale2 = p.1.1; key = p.1.2; year = p.1.3 })
              (each_both (λ s. Shaped (header_of x) s.code) Low slots s.shape (each-tab Low (slot_at (header_of x) a) x.n (λ i l. slot-low i)))));
        }

    abbrev file : List ℕ
    file = file_bytes (header_of x) cells

    is-saved : state_in file ≡ saved (state_of x a)
    unfolding state_of
    is-saved = read-written (state_of x a) writable

    opens : (b : Arrays) → x.live ≤ capacity (header_of x) b → Opens b file (saved (state_of x a))
    unfolding read_into
    opens b space =
        let passes : read_refusal file b ≡ 0 = accepted-back (header_of x) (map entry_of cells) writable b (omega (arith, length-map cells entry_of, live-is, space)) in
        let made : (read_into b file).answer ≡ granted (record_of (saved (state_of x a))) =
        ap (λ (n : ℕ). (begun_unless n (record_of (state_in file)) b (overlay (unmarked b) (slots_in file))).answer) passes
        ∙ ap (λ (s : State). granted (record_of s)) is-saved in
        record { answer = made; value = read-value b file (record_of (saved (state_of x a))) made ∙ is-saved }

-- ---- an answer of bytes is that of the file

not-refused : (n : ℕ) (cs : List ℕ) → refused n ≡ bytes cs → ⊥
not-refused n cs e = let z : ◌≡◌ {A = ℕ} 0 1 = cc in omega arith

bytes-are : (n : ℕ) (bs cs : List ℕ) → unless n (bytes bs) ≡ bytes cs → bs ≡ cs
bytes-are zero bs cs e = cc
bytes-are (suc n) bs cs e = absurd (not-refused (suc n) cs e)

module _ (x : Index) (a : Arrays) (t : Typed x a) (places : ℕ) (out : List ℕ) (e : (call x a (write places)).answer ≡ bytes out) where
  fits : fit x a ≡ true
  fits = go (fit x a) refl
    where
      go : (f : Bool) → fit x a ≡ f → f ≡ true
      go true f = refl
      go false f = absurd (not-refused 13 out (sym (ap (λ (r : Result). r.answer) (call-misfit x a (write places) f)) ∙ e))

  out-is : file x a t fits ≡ out
  unfolding step state_of
  out-is =
      bytes-are (when (ltb places (length (file x a t fits))) 13) (file x a t fits) out
      (sym (ap (λ (r : Result). r.answer) (call_fits x a (write places) fits)) ∙ e)

  -- what any accepted reading of the bytes stands for
  pub out-saved : state_in out ≡ saved (state_of x a)
  out-saved = ap state_in (sym out-is) ∙ is-saved x a t fits

pub written-is-read : WrittenIsRead
written-is-read x a t places out e b space =
    subst (λ (bs : List ℕ). Opens b bs (saved (state_of x a))) (out-is x a t places out e) (opens x a t (fits x a t places out e) b space)
