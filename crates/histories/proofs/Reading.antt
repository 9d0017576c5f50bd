-- Answers read back by arrival.
use mathlib.Core.Path.{◌≡◌, refl, sym, ap, subst}
use mathlib.Core.Bool.{Bool, true}
use mathlib.Core.List.{List, [], ◌∷◌, map}
use mathlib.Core.Option
use mathlib.Core.Option.{Option, none, some}
use Prim.Native.Nat.{ℕ, zero, suc}
use lib.Dec.{T}
use lib.Ieee.{Float}
use Rattle.lists.specs.Keep.{Each}
use Rattle.index.specs.Step.{Answer, refused, done, flag, slot, maybe_slot, maybe_key, score_is, hits, key_hits, size, bytes, unless}
use Rattle.index.proofs.Questions.{renamed_answer, Slots}
use Rattle.histories.specs.Histories.{hits_read, read, accepted}

hits-back : (g : ℕ → Option ℕ) (f : ℕ → ℕ) (xs : List (ℕ × Float)) → Each (λ x. g x.0 ≡ some (f x.0)) xs →
    hits_read g xs ≡ some (map (λ x. (f x.0, x.1)) xs)
hits-back g f [] h = refl
hits-back g f (x ∷ xs) h = rw (h.0, hits-back g f xs h.1)

pub read_back : (g : ℕ → Option ℕ) (f : ℕ → ℕ) (b : Answer) → Slots (λ i. g i ≡ some (f i)) b → read g b ≡ some (renamed_answer f b)
read_back g f (refused n) h = refl
read_back g f done h = refl
read_back g f (flag b) h = refl
read_back g f (slot i) h = rw h
read_back g f (maybe_slot none) h = refl
read_back g f (maybe_slot (some i)) h = rw h
read_back g f (maybe_key o) h = refl
read_back g f (score_is x) h = refl
read_back g f (hits xs) h = rw (hits-back g f xs h)
read_back g f (key_hits xs) h = refl
read_back g f (size n) h = refl
read_back g f (bytes bs) h = refl

-- what is read is accepted just where the answer is
abbrev pub read_accepted : Option Answer → Bool → Bool
read_accepted none d = d
read_accepted (some b) d = accepted b

map-accepted : {A : Type 0} (f : A → Answer) (o : Option A) (d : Bool) → ((x : A) → accepted (f x) ≡ d) → read_accepted (Option.map f o) d ≡ d
map-accepted f none d h = refl
map-accepted f (some x) d h = h x

pub read-accepted : (g : ℕ → Option ℕ) (b : Answer) → read_accepted (read g b) (accepted b) ≡ accepted b
read-accepted g (refused n) = refl
read-accepted g done = refl
read-accepted g (flag b) = refl
read-accepted g (slot i) = map-accepted slot (g i) _ (λ x. refl)
read-accepted g (maybe_slot none) = refl
read-accepted g (maybe_slot (some i)) = map-accepted (λ a. maybe_slot (some a)) (g i) _ (λ x. refl)
read-accepted g (maybe_key o) = refl
read-accepted g (score_is x) = refl
read-accepted g (hits xs) = map-accepted hits (hits_read g xs) _ (λ x. refl)
read-accepted g (key_hits xs) = refl
read-accepted g (size n) = refl
read-accepted g (bytes bs) = refl

-- ---- what is not refused has passed the tests

pub unless-accepted : (n : ℕ) (b : Answer) → accepted (unless n b) ≡ true → n ≡ 0
unless-accepted zero b e = refl
unless-accepted (suc n) b e = absurd (subst T (sym e) tt)

pub passed : (n : ℕ) (b : Answer) → accepted (unless n b) ≡ true → unless n b ≡ b
passed n b e = ap (λ (m : ℕ). unless m b) (unless-accepted n b e)
