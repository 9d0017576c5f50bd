-- The tests of `specs/Writing.antt` as facts, and what follows of the definitions there.
use mathlib.Core.Path.{◌≡◌, sym, ◌∙◌}
use mathlib.Core.List.{List}
use mathlib.Core.Bool.{Bool, true, false, ◌&&◌}
use Prim.Native.Nat.{ℕ, ◌^◌}
use borrow.Author.Tests.{ltb-true, leb-true, eqb-true, lt-ltb, le-leb, eq-eqb}
use lib.Dec.{ltb, leb, eqb}
use lib.Pow.{pow_pos}
use lib.ListN.{length}
use Rattle.digits.specs.Digits.{digits_below}
use Rattle.lists.proofs.Tests.{both}
use Rattle.digits.proofs.Below.{below_true, below-yes}
use Rattle.codes.specs.Packing.{bytes_per_vector, packed}
use Rattle.codes.specs.Writing.{is_width, at_width, packable, repacked}
pub use Rattle.codes.specs.Writing.{Width, Packable}

-- ---- a width

pub is-width : {w : ℕ} → Width w → is_width w ≡ true
unfolding is_width
is-width {w} h = rw (lt-ltb 0 w h.some) (le-leb w 8 h.most)

width_of : (w : ℕ) → is_width w ≡ true → Width w
unfolding is_width
width_of w h =
    let b = both (ltb 0 w) (leb w 8) h in
    record { some = ltb-true 0 w b.0; most = leb-true w 8 b.1 }

pub at_width_lem : {w : ℕ} (x : ℕ) → Width w → at_width w x ≡ x
unfolding at_width
at_width_lem x h = rw (is-width h)

-- a call of `is_width` that answers no, and one that answers yes
pub no-width : {r : Bool} (w : ℕ) → r ≡ is_width w → r ≡ false → is_width w ≡ false
no-width w e h = sym e ∙ h

pub a-width : {r : Bool} (w : ℕ) → r ≡ is_width w → r ≡ true → Width w
a-width w e h = width_of w (sym e ∙ h)

-- ---- the codes of a vector

pub packable-of : (w : ℕ) (codes : List ℕ) (bytes : ℕ) → packable w codes bytes ≡ true → Packable w codes bytes
unfolding packable
packable-of w codes bytes h =
    let b = both (is_width w) (eqb bytes (bytes_per_vector w (length codes)) && digits_below (2 ^ w) codes) h in
    let d = both (eqb bytes (bytes_per_vector w (length codes))) (digits_below (2 ^ w) codes) b.1 in
    record { width = width_of w b.0; size = eqb-true bytes (bytes_per_vector w (length codes)) d.0; fit = below_true (2 ^ w) (pow_pos w) codes d.1 }

pub packable-yes : (w : ℕ) (codes : List ℕ) (bytes : ℕ) → Packable w codes bytes → packable w codes bytes ≡ true
unfolding packable
packable-yes w codes bytes h =
    rw (is-width h.width, eq-eqb bytes (bytes_per_vector w (length codes)) h.size) (below-yes (2 ^ w) codes (λ i l. h.fit i))

pub written-yes : {w : ℕ} {codes : List ℕ} (spares : ℕ) (block : List ℕ) → Packable w codes (length block)
    → repacked w codes spares block ≡ packed w codes spares
unfolding repacked
written-yes {w} {codes} spares block h = rw (packable-yes w codes (length block) h)

pub written-no : (w : ℕ) (codes : List ℕ) (spares : ℕ) (block : List ℕ) → packable w codes (length block) ≡ false
    → repacked w codes spares block ≡ block
unfolding repacked
written-no w codes spares block h = rw h
