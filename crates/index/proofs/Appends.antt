-- What an accepted append stores and answers.
use mathlib.Core.Path.{◌≡◌, refl, sym, ap}
use mathlib.Core.Bool.{true}
use mathlib.Core.List.{[], ◌∷◌, ◌++◌}
use mathlib.Core.Option.{Option, none, some}
use Prim.Native.Nat.{ℕ, zero, suc}
use native.Mathlib.Omega.{arith}
use lib.ListN.{length}
use Rattle.encode.specs.Coded.{no_spare}
use Rattle.index.specs.State.{Mark, is_live, Slot, State, live, new_slot}
use Rattle.index.specs.Codec.{encoded}
use Rattle.index.specs.Step.{add, add_keyed, add_multi, Item, Answer, refused, done, flag, slot, maybe_slot, maybe_key, score_is, hits, key_hits, size, bytes, live_from, key_of_mark, slot_holding, Outcome, guarded, appended, step}
use Rattle.index.proofs.Refusals.{either_way}

-- slot i is the next one after those of s, which stay; it is live, with the key, the code of the vector, spare bits 0, and the year
pub record Stored (s : State) (key : Option ℕ) (v : Item) (y : ℕ) (i : ℕ) (t : State) : Type 0 where
  pub number : i ≡ length s.slots
  pub new : Slot
  pub slots : t.slots ≡ s.slots ++ (new ∷ [])
  pub alive : live new ≡ true
  pub keyed : key_of_mark new.mark ≡ key
  pub code : new.code ≡ encoded s.header no_spare v
  pub year : new.year ≡ y

-- the slot in an answer
abbrev slot_or : ℕ → Answer → ℕ
slot_or d (refused n) = d
slot_or d done = d
slot_or d (flag b) = d
slot_or d (slot i) = i
slot_or d (maybe_slot o) = d
slot_or d (maybe_key o) = d
slot_or d (score_is x) = d
slot_or d (hits xs) = d
slot_or d (key_hits xs) = d
slot_or d (size n) = d
slot_or d (bytes bs) = d

-- what answers a slot was not refused
unrefused : (s : State) (i n : ℕ) (o : Outcome) (P : State → Type 0) → (guarded s n o).answer ≡ slot i → (o.answer ≡ slot i → P o.state) →
    P (guarded s n o).state
unfolding guarded
unrefused s i zero o P e h = h e
unrefused s i (suc n) o P e h = absurd (omega (arith, ap (slot_or (suc i)) e))

module _ (room : ℕ) (s : State) (v : Item) (y i : ℕ) where
  appended-stores : (m : Mark) → is_live m ≡ true → (appended room s m v y).answer ≡ slot i → Stored s (key_of_mark m) v y i (appended room s m v y).state
  unfolding appended
  appended-stores m l e =
      unrefused s i _ _ (Stored s (key_of_mark m) v y i) e
      (λ f. record {
        number = sym (ap (slot_or i) f);
        new = new_slot m (encoded s.header no_spare v) y;
        slots = refl;
        alive = l;
        keyed = refl;
        code = refl;
        year = refl;
      })

  pub add-stores : (step room s (add v y)).answer ≡ slot i → Stored s none v y i (step room s (add v y)).state
  unfolding step
  add-stores e = appended-stores _ refl e

  pub multi-stores : (j : ℕ) → (step room s (add_multi j v y)).answer ≡ slot i → Stored s (some j) v y i (step room s (add_multi j v y)).state
  unfolding step
  multi-stores j e = appended-stores _ refl e

  -- of a key that no slot has
  pub keyed-stores : (j present : ℕ) → slot_holding j 0 (live_from 0 s.slots) ≡ none → (step room s (add_keyed j v y present)).answer ≡ slot i →
      Stored s (some j) v y i (step room s (add_keyed j v y present)).state
  unfolding step
  keyed-stores j present f e =
      either_way (λ o. o.answer ≡ slot i → Stored s (some j) v y i o.state) (slot_holding j 0 (live_from 0 s.slots)) _ _ (λ g. appended-stores _ refl)
      (λ a g. absurd (let z : ◌≡◌ {A = ℕ} 0 1 = cc in omega arith)) e
