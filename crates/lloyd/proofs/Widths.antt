-- The tables of a width: how long they are, and that they are sound. Each fact is over the width, and computed at 4, 5 and 6.
use mathlib.Core.Path.{◌≡◌, refl, sym, ap, ◌∙◌, subst}
use mathlib.Core.Logic.{◌≢◌}
use Prim.Native.Nat.{ℕ, ◌-◌, ◌≤◌, ◌<◌, zero-le}
use native.Mathlib.Nat.{not-suc-le-zero}
use native.Mathlib.Decide.{ℕ_discrete}
use native.Mathlib.Omega.{arith}
use mathlib.Core.Bool.{Bool, true, false, cond}
use mathlib.Core.List.{List, []}
use Rattle.std.proofs.Common.{Bor}
use lib.Dec.{T, eqb, lit≤}
use lib.ListN.{length}
use borrow.Author.Tests.{ne_eqb}
use lib.Ieee.{Float, lt}
use Rattle.lloyd.specs.Tables.{by_width, levels_of, centroids_of, boundaries_of, centroids4, centroids5, centroids6, boundaries4, boundaries5, boundaries6}
use Rattle.lloyd.specs.Sound.{sound, TablesRule}
use Rattle.lloyd.proofs.Sound.{sound-at}

-- at a width that is none of the three
module _ (bits : ℕ) (not-4 : bits ≢ 4) (not-5 : bits ≢ 5) (not-6 : bits ≢ 6) where
  pub by-other : {A : Type 0} (four five six other : A) → by_width four five six other bits ≡ other
  unfolding by_width
  by-other four five six other = simp (ne_eqb bits 4 not-4, ne_eqb bits 5 not-5, ne_eqb bits 6 not-6)

  pub no-levels : levels_of bits ≡ 0
  unfolding levels_of
  no-levels = by-other 16 32 64 0

-- a function of what stands for a width
by-width-map : {A B : Type 0} (f : A → B) (four five six other : A) (bits : ℕ)
    → f (by_width four five six other bits) ≡ by_width (f four) (f five) (f six) (f other) bits
unfolding by_width
by-width-map f four five six other bits = go (eqb bits 4) (eqb bits 5) (eqb bits 6)
  where
    go : (x y z : Bool) → f (cond x four (cond y five (cond z six other))) ≡ cond x (f four) (cond y (f five) (cond z (f six) (f other)))
    go true y z = refl
    go false true z = refl
    go false false true = refl
    go false false false = refl

-- of tables that are lent, what a width's one holds
pub by-width-lent : (bits : ℕ) (four five six other lent : Bor (List Float)) → lent ≡ by_width four five six other bits
    → lent.now ≡ by_width four.now five.now six.now other.now bits
by-width-lent bits four five six other lent e =
    let entries = λ (b : Bor (List Float)). b.now in
    ap entries e ∙ by-width-map entries four five six other bits

pub centroids-length : (bits : ℕ) → length (centroids_of bits) ≡ levels_of bits
unfolding centroids_of levels_of centroids4 centroids5 centroids6
centroids-length = by-width-map length centroids4 centroids5 centroids6 []

pub boundaries-length : (bits : ℕ) → length (boundaries_of bits) ≡ levels_of bits - 1
unfolding boundaries_of levels_of boundaries4 boundaries5 boundaries6
boundaries-length bits =
    by-width-map length boundaries4 boundaries5 boundaries6 [] bits ∙ sym (by-width-map (λ (n : ℕ). n - 1) 16 32 64 0 bits)

-- the number of boundaries, by what `levels` returns
pub boundaries-count : (bits n : ℕ) → n ≡ levels_of bits → n - 1 ≡ length (boundaries_of bits)
boundaries-count bits n e = ap (λ (k : ℕ). k - 1) e ∙ sym (boundaries-length bits)

-- what holds at 4, 5 and 6, and at any width that is none of them, holds at each width
at-each-width : (P : ℕ → Type 0) → P 4 → P 5 → P 6 → ((bits : ℕ) → bits ≢ 4 → bits ≢ 5 → bits ≢ 6 → P bits) → (bits : ℕ) → P bits
at-each-width P four five six other bits = go (ℕ_discrete bits 4) (ℕ_discrete bits 5) (ℕ_discrete bits 6)
  where
    go : Dec (bits ≡ 4) → Dec (bits ≡ 5) → Dec (bits ≡ 6) → P bits
    go (yes p) y z = subst P (sym p) four
    go (no p) (yes q) z = subst P (sym q) five
    go (no p) (no q) (yes r) = subst P (sym r) six
    go (no p) (no q) (no r) = other bits p q r

pub levels-le : (bits : ℕ) → levels_of bits ≤ 64
unfolding levels_of
levels-le =
    at-each-width (λ bits. levels_of bits ≤ 64) (lit≤ tt) (lit≤ tt) (lit≤ tt) (λ bits p q r. rw (no-levels bits p q r) zero-le)

-- each table has room in 64 places
pub centroids-fit : (bits : ℕ) → length (centroids_of bits) ≤ 64
centroids-fit bits = rw (centroids-length bits) (levels-le bits)

pub boundaries-fit : (bits : ℕ) → length (boundaries_of bits) ≤ 64
boundaries-fit bits = rw (boundaries-length bits) (omega (arith, levels-le bits))

-- the rule over the six tables, computed
tables-sound : (bits : ℕ) → 0 < levels_of bits → T (sound (boundaries_of bits) (centroids_of bits))
unfolding sound boundaries_of centroids_of levels_of boundaries4 centroids4 boundaries5 centroids5 boundaries6 centroids6 lt
tables-sound =
    at-each-width (λ bits. 0 < levels_of bits → T (sound (boundaries_of bits) (centroids_of bits))) (λ _. tt) (λ _. tt) (λ _. tt)
    (λ bits p q r h. absurd (not-suc-le-zero (subst (λ (n : ℕ). 0 < n) (no-levels bits p q r) h)))

pub tables-rule : TablesRule
tables-rule bits some = sound-at (boundaries_of bits) (centroids_of bits) (tables-sound bits some)
