-- The tests `codable` and `encodable` of `specs/Calls.antt`: as the program makes them, and what follows where they pass.
use mathlib.Core.Path.{◌≡◌, refl, sym}
use mathlib.Core.Bool.{Bool, true, false, not, ◌&&◌, ◌||◌}
use Prim.Native.Nat.{ℕ, ◌*◌, ◌%◌, ◌^◌, ◌≤◌, ◌<◌}
use borrow.Author.Tests.{eq-eqb, eqb-true, le-leb, lt-leb, lt-ltb, le-ltb, leb-true, ltb-true}
use lib.Dec.{eqb, leb, ltb, lit<}
use Rattle.lists.proofs.Tests.{both}
use Rattle.padding.specs.Rotatable.{rotatable}
use Rattle.unit.proofs.Rotatable.{Rotatable, is-rotatable, rotatable-of}
use Rattle.encode.specs.Header.{Header, padded}
use Rattle.encode.specs.Calls.{codable, encodable}
pub use Rattle.encode.specs.Calls.{Fits}
use native.Mathlib.Nat.{one-mul, mod-eq_of_lt, lt_of_le_of_lt}
use lib.Pow.{pow-lt}
use Rattle.codes.specs.Packing.{bytes_per_vector}
use Rattle.codes.specs.Writing.{is_width, at_width}
use Rattle.codes.proofs.Tests.{Width, is-width, a-width, at_width_lem}

-- ---- one stage

pub is-fit : {w boundaries codes block : ℕ} → Fits w boundaries codes block → codable w boundaries codes block ≡ true
unfolding codable
is-fit {w} {boundaries} {codes} {block} f =
    rw (is-width f.width, lt-ltb boundaries (2 ^ w) f.table, le-leb codes 4096 f.most) (eq-eqb block (bytes_per_vector w codes) f.size)

pub fits-of : (w boundaries codes block : ℕ) → codable w boundaries codes block ≡ true → Fits w boundaries codes block
unfolding codable
fits-of w boundaries codes block h =
    let a = both (is_width w) (ltb boundaries (2 ^ w) && (leb codes 4096 && eqb block (bytes_per_vector w codes))) h in
    let b = both (ltb boundaries (2 ^ w)) (leb codes 4096 && eqb block (bytes_per_vector w codes)) a.1 in
    let c = both (leb codes 4096) (eqb block (bytes_per_vector w codes)) b.1 in
    record {
      width = a-width {r = true} w (sym a.0) refl;
      table = ltb-true boundaries (2 ^ w) b.0;
      most = leb-true codes 4096 c.0;
      size = eqb-true block (bytes_per_vector w codes) c.1;
    }

-- the tests of `is_codable`, in their order
module _ (w boundaries codes block : ℕ) where
  pub no-codes : is_width w ≡ false → false ≡ codable w boundaries codes block
  unfolding codable
  no-codes h = rw h

  module _ (width : Width w) where
    levels : 1 * 2 ^ w % 2 ^ 64 ≡ 2 ^ w
    levels = rw (one-mul (2 ^ w)) (mod-eq_of_lt (pow-lt {j = 64} (lt_of_le_of_lt width.most (lit< tt))))

    pub too-many-levels : 1 * 2 ^ w % 2 ^ 64 ≤ boundaries → false ≡ codable w boundaries codes block
    unfolding codable
    too-many-levels h = rw (is-width width, le-ltb boundaries (2 ^ w) (rw levels at h))

    module _ (table : boundaries < 1 * 2 ^ w % 2 ^ 64) where
      pub too-many-codes : 4096 < codes → leb codes 4096 ≡ codable w boundaries codes block
      unfolding codable
      too-many-codes h = rw (is-width width, lt-ltb boundaries (2 ^ w) (rw levels at table), lt-leb codes 4096 h)

      pub by_size : codes ≤ 4096 → (bytes : ℕ) → bytes ≡ at_width w (bytes_per_vector w codes) → eqb block bytes ≡ codable w boundaries codes block
      unfolding codable
      by_size h bytes e = rw (is-width width, lt-ltb boundaries (2 ^ w) (rw levels at table), le-leb codes 4096 h, e, at_width_lem (bytes_per_vector w codes) width)

-- ---- a whole vector

pub record Encodable (h : Header) (boundaries entries block block2 : ℕ) : Type 0 where
  pub rotates : Rotatable h.working_dim entries 4096
  pub first : Fits h.bits boundaries (padded h) block
  pub second : h.residual ≡ true → block2 ≡ block

module _ (h : Header) (boundaries entries block block2 : ℕ) where
  pub is-encodable : Encodable h boundaries entries block block2 → encodable h boundaries entries block block2 ≡ true
  unfolding encodable
  is-encodable e = rw (is-rotatable e.rotates, is-fit e.first) (go h.residual e.second)
    where
      go : (r : Bool) → (r ≡ true → block2 ≡ block) → (not r || eqb block2 block) ≡ true
      go false f = refl
      go true f = eq-eqb block2 block (f refl)

  pub encodable-of : encodable h boundaries entries block block2 ≡ true → Encodable h boundaries entries block block2
  unfolding encodable
  encodable-of e =
      let a = both (rotatable h.working_dim entries 4096) (codable h.bits boundaries (padded h) block && (not h.residual || eqb block2 block)) e in
      let b = both (codable h.bits boundaries (padded h) block) (not h.residual || eqb block2 block) a.1 in
      record {
        rotates = rotatable-of h.working_dim entries 4096 a.0;
        first = fits-of h.bits boundaries (padded h) block b.0;
        second = λ r. eqb-true block2 block (rw r at b.1);
      }

  pub padded-fits : encodable h boundaries entries block block2 ≡ true → (n : ℕ) → n ≡ padded h → n ≤ 4096
  padded-fits e n size = rw size (encodable-of e).rotates.room

  -- the tests of `is_encodable`, in their order
  pub no-rotation : rotatable h.working_dim entries 4096 ≡ false → false ≡ encodable h boundaries entries block block2
  unfolding encodable
  no-rotation e = rw e

  module _ (rotates : rotatable h.working_dim entries 4096 ≡ true) where
    pub no-fit : codable h.bits boundaries (padded h) block ≡ false → false ≡ encodable h boundaries entries block block2
    unfolding encodable
    no-fit e = rw (rotates, e)

    module _ (first : codable h.bits boundaries (padded h) block ≡ true) where
      pub both-blocks : not h.residual ≡ false → eqb block2 block ≡ encodable h boundaries entries block block2
      unfolding encodable
      both-blocks e = rw (rotates, first, e)

      pub one_block : not h.residual ≡ true → not h.residual ≡ encodable h boundaries entries block block2
      unfolding encodable
      one_block e = rw (rotates, first, e)
