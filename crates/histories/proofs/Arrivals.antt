-- Rising lists of arrivals: the number of an arrival is its place, and a number is read back as the arrival there.
use mathlib.Core.Path.{◌≡◌, refl, sym, ap, ◌∙◌}
use mathlib.Core.Bool.{Bool, true, false, cond}
use mathlib.Core.List.{List, [], ◌∷◌, ◌++◌, Memᴰ}
use mathlib.Core.Option.{some}
use Prim.Native.Nat.{ℕ, zero, suc, ◌≤◌, ◌<◌}
use native.Mathlib.Omega.{arith}
use lib.ListN.{length, get_or, get_elem?}
use lib.Dec.{eqb}
use borrow.Author.Tests.{lt-ltb, le-ltb, eqb-true, eq-eqb}
use Rattle.lists.specs.Keep.{bit, Each}
use Rattle.lists.proofs.Keep.{each_append, each_weaken}
use Rattle.lists.proofs.Front.{each_at}
use Rattle.histories.specs.Histories.{number_now, arrival_at}

-- strictly rising
abbrev pub Sorted : List ℕ → Type 0
Sorted [] = Unit
Sorted (a ∷ ws) = Each (λ b. a < b) ws × Sorted ws

pub sorted_more : (n : ℕ) (ws : List ℕ) → Sorted ws → Each (λ a. a < n) ws → Sorted (ws ++ (n ∷ []))
sorted_more n [] s b = (tt, tt)
sorted_more n (a ∷ ws) s b = (each_append (λ x. a < x) ws (n ∷ []) s.0 (b.0, tt), sorted_more n ws s.1 b.1)

number-none : (a : ℕ) (ws : List ℕ) → Each (λ b. a ≤ b) ws → number_now ws a ≡ 0
number-none a [] h = refl
number-none a (b ∷ ws) h = omega (arith, ap bit (le-ltb b a h.0), number-none a ws h.1)

-- no arrival of the list comes after the next one
pub number-all : (a : ℕ) (ws : List ℕ) → Each (λ b. b < a) ws → number_now ws a ≡ length ws
number-all a [] h = refl
number-all a (b ∷ ws) h = omega (arith, ap bit (lt-ltb b a h.0), number-all a ws h.1)

pub number-first : (a : ℕ) (ws : List ℕ) → Each (λ b. a < b) ws → number_now (a ∷ ws) a ≡ 0
number-first a ws h = number-none a (a ∷ ws) (omega arith, each_weaken (λ b. a < b) (λ b. a ≤ b) ws (λ b l. omega arith) h)

pub number-later : (a b : ℕ) (ws : List ℕ) → a < b → number_now (a ∷ ws) b ≡ suc (number_now ws b)
number-later a b ws l = omega (arith, ap bit (lt-ltb a b l))

-- the number of an arrival of the list is its place there
pub at-number : (ws : List ℕ) → Sorted ws → Each (λ a. get_elem? ws (number_now ws a) ≡ some a) ws
at-number [] s = tt
at-number (a ∷ ws) s = (ap (get_elem? (a ∷ ws)) (number-first a ws s.0), go ws s.0 (at-number ws s.1))
  where
    go : (zs : List ℕ) → Each (λ b. a < b) zs → Each (λ b. get_elem? ws (number_now ws b) ≡ some b) zs → Each (λ b. get_elem? (a ∷ ws) (number_now (a ∷ ws) b) ≡ some b) zs
    go [] h k = tt
    go (z ∷ zs) h k = (ap (get_elem? (a ∷ ws)) (number-later a z ws h.0) ∙ k.0, go zs h.1 k.1)

pub number_at : (ws : List ℕ) → Sorted ws → (i : ℕ) → i < length ws → number_now ws (get_or ws i 0) ≡ i
number_at [] s i l = absurd (omega arith)
number_at (a ∷ ws) s zero l = number-first a ws s.0
number_at (a ∷ ws) s (suc i) l = number-later a (get_or ws i 0) ws (each_at (λ b. a < b) ws i 0 s.0 (omega arith)) ∙ ap suc (number_at ws s.1 i (omega arith))

-- an arrival of the list with this number is the only one, so it is read back
pub read_number : (ws : List ℕ) (a i : ℕ) {more : List ℕ} → Each (λ b. get_elem? ws (number_now ws b) ≡ some b) more → get_elem? ws i ≡ some a →
    Memᴰ a more → number_now ws a ≡ i →
    arrival_at ws more i ≡ some a
read_number ws a i h e (Memᴰ.head {x = y} {xs = ys} q) n = rw (eq-eqb (number_now ws y) i (ap (number_now ws) (sym q) ∙ n)) (ap some (sym q))
read_number ws a i h e (Memᴰ.tail {x = y} {xs = ys} m) n = go (eqb (number_now ws y) i) refl (read_number ws a i h.1 e m n)
  where
    go : (b : Bool) → eqb (number_now ws y) i ≡ b → arrival_at ws ys i ≡ some a → cond b (some y) (arrival_at ws ys i) ≡ some a
    go true f k = sym h.0 ∙ ap (get_elem? ws) (eqb-true (number_now ws y) i f) ∙ e
    go false f k = k
