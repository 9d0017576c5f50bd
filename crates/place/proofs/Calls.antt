-- The refusals of an add, and what an accepted one writes.
use mathlib.Core.Path.{◌≡◌, refl, sym, ◌∙◌}
use mathlib.Core.Bool.{Bool, true, false, not}
use mathlib.Core.List.{List, [], ◌∷◌, ◌++◌}
use Prim.Native.Nat.{ℕ, zero, suc, ◌≤◌, ◌<◌}
use native.Mathlib.Omega.{arith}
use borrow.Author.Tests.{le-leb, lt-leb, leb-false}
use lib.Dec.{leb, eqb}
use Rattle.lists.proofs.Laws.{length-tab}
use Rattle.lists.proofs.Keep.{count-length}
use Rattle.codes.specs.Writing.{at_width}
use Rattle.vectors.proofs.Faults.{has-length}
use Rattle.encode.specs.Coded.{fault}
use Rattle.refusal.specs.declared.Refusal.{Refusal}
use Rattle.refusal.specs.Refusal.{number_of}
use Rattle.refusal.proofs.Numbers.{above_0}
use Rattle.index.specs.declared.Index.{Index}
use Rattle.index.specs.Arrays.{Arrays}
use Rattle.index.specs.State.{Slot, header_of, capacity, slot_at, put_slot, new_slot}
use Rattle.index.specs.Fit.{row_at, rows, fit}
use Rattle.index.specs.Step.{Item, first_of, when, refused, slot}
use Rattle.index.specs.Call.{Result}
use Rattle.index.specs.Answers.{result_of}
use Rattle.index.proofs.Overlay.{roomy}
use Rattle.index.proofs.Fits.{fitting}
use Rattle.fit.proofs.Rooms.{enough, in-width}
use Rattle.place.specs.declared.Spot.{Spot}
use Rattle.place.specs.Place.{recoded, put_code, put_mark, Codable, after_add, refusal}
use Rattle.place.specs.declared.Adding.{Adding}
use Rattle.place.specs.Adding.{mark_of_spot, barred}
use Rattle.place.proofs.Codes.{within}

-- ---- the refusal, test by test

module _ (x : Index) (a : Arrays) (w : Adding) (i : ℕ) (v : Item) where
  pub refuse-misfit : fit x a ≡ false → 13 ≡ refusal x a w i v
  unfolding refusal first_of
  refuse-misfit e = rw e

  module _ (e : fit x a ≡ true) where
    pub refuse-fault : (r : Refusal) → number_of r ≡ fault (header_of x) v.vector → number_of r ≡ refusal x a w i v
    unfolding refusal first_of
    refuse-fault r is = rw (e, sym is) (go (number_of r) (above_0 r))
      where
        go : (n : ℕ) → 0 < n → n ≡ first_of (n ∷ when (leb (capacity (header_of x) a) i) 8 ∷ when (barred w a.years x.n i) 21 ∷ [])
        go zero s = absurd (omega arith)
        go (suc n) s = refl

    -- the room, as the program asks for it
    room-is : (room : ℕ) → room ≡ at_width x.bits (capacity (header_of x) a) → room ≡ capacity (header_of x) a
    room-is room r = let b = within 4 6 x.bits (fitting x a e).header.bits in r ∙ in-width x.bits (capacity (header_of x) a) b.0 b.1

    module _ (sound : fault (header_of x) v.vector ≡ 0) (room : ℕ) (r : room ≡ at_width x.bits (capacity (header_of x) a)) where
      pub refuse-full : room ≤ i → 8 ≡ refusal x a w i v
      unfolding refusal first_of
      refuse-full l = rw (e, sound, le-leb (capacity (header_of x) a) i (omega (arith, l, room-is room r)))

      module _ (l : i < room) where
        free : leb (capacity (header_of x) a) i ≡ false
        free = lt-leb (capacity (header_of x) a) i (omega (arith, l, room-is room r))

        pub refuse-barred : barred w a.years x.n i ≡ true → 21 ≡ refusal x a w i v
        unfolding refusal first_of
        refuse-barred b = rw (e, sound, free, b)

        pub refuse-none : barred w a.years x.n i ≡ false → 0 ≡ refusal x a w i v
        unfolding refusal first_of
        refuse-none b = rw (e, sound, free, b)

-- a test that is passed counts for nothing
pub zero-test : (ms ns : List ℕ) → first_of (ms ++ (0 ∷ ns)) ≡ first_of (ms ++ ns)
unfolding first_of
zero-test [] ns = refl
zero-test (zero ∷ ms) ns = zero-test ms ns
zero-test (suc m ∷ ms) ns = refl

-- ---- no refusal

pub record Accepted (x : Index) (a : Arrays) (i : ℕ) (v : Item) : Type 0 where
  pub fits : fit x a ≡ true
  pub vector : fault (header_of x) v.vector ≡ 0
  pub below : i < capacity (header_of x) a

pub accepted : (x : Index) (a : Arrays) (w : Adding) (i : ℕ) (v : Item) → refusal x a w i v ≡ 0 → Accepted x a i v
unfolding refusal first_of
accepted x a w i v r = go (fit x a) refl (fault (header_of x) v.vector) refl (leb (capacity (header_of x) a) i) refl r
  where
    go : (b : Bool) → fit x a ≡ b → (n : ℕ) → fault (header_of x) v.vector ≡ n → (t : Bool) → leb (capacity (header_of x) a) i ≡ t →
        first_of (when (not b) 13 ∷ n ∷ when t 8 ∷ when (barred w a.years x.n i) 21 ∷ []) ≡ 0 → Accepted x a i v
    go false f n g t k q = absurd (let z : ◌≡◌ {A = ℕ} 13 0 = q in omega arith)
    go true f (suc n) g t k q = absurd (let z : suc n ≡ 0 = q in omega arith)
    go true f zero g true k q = absurd (let z : ◌≡◌ {A = ℕ} 8 0 = q in omega arith)
    go true f zero g false k q = record { fits = f; vector = g; below = leb-false (capacity (header_of x) a) i k }

module _ (x : Index) (a : Arrays) (i : ℕ) (v : Item) (ok : Accepted x a i v) where
  pub codable : Codable (header_of x) a i v
  codable =
      let f = fitting x a ok.fits in
      let r = roomy (suc i) (header_of x) a ok.below in
      record {
        header = f.header;
        entries = omega (arith, has-length x.dim x.working_dim v.vector ok.vector, (within 1 x.dim x.working_dim f.header.working_dim).1);
        codes = r.codes;
        scales = r.scales;
        codes2 = r.codes2;
        scales2 = r.scales2;
      }

  pub few-slots : x.n ≤ 65536
  few-slots = (enough (header_of x) a x.n (fitting x a ok.fits).space).few

  pub few-live : x.live ≤ 65536
  few-live =
      omega (arith, few-slots, (fitting x a ok.fits).live, count-length (λ r. eqb r.alive 1) (rows x a), length-tab (row_at a) x.n)

-- ---- what is left

-- a refusal leaves record and arrays as they were
abbrev pub unless_refused : Index → Arrays → (refusal : ℕ) → Result → Result
unless_refused x a zero r = r
unless_refused x a (suc n) r = result_of x a (refused (suc n))

pub refused_as : (x : Index) (a : Arrays) (n : ℕ) (r : Result) → 0 < n → result_of x a (refused n) ≡ unless_refused x a n r
refused_as x a zero r s = absurd (omega arith)
refused_as x a (suc n) r s = refl

-- the slot anew
abbrev pub written : Index → Arrays → Spot → (fresh : Bool) → Item → (year : ℕ) → Slot
written x a s fresh v y = new_slot (mark_of_spot s) (recoded (header_of x) fresh (slot_at (header_of x) a s.slot).code v) y

abbrev pub wrote : Index → Arrays → Spot → (fresh : Bool) → Item → (year : ℕ) → Result
wrote x a s fresh v y = result_of (after_add x fresh) (put_slot (header_of x) a s.slot (written x a s fresh v y)) (slot s.slot)

-- its code, and then its mark and its year
pub both-put : (x : Index) (a : Arrays) (s : Spot) (fresh : Bool) (v : Item) (y : ℕ) →
    put_mark (put_code (header_of x) a fresh s.slot v) s.slot (mark_of_spot s) y ≡ put_slot (header_of x) a s.slot (written x a s fresh v y)
unfolding put_code put_mark put_slot
both-put x a s fresh v y = refl
