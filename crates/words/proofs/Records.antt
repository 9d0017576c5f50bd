-- Which words are a record's, test by test; and what is written is read back.
use mathlib.Core.Path.{◌≡◌, refl, sym, ap, ◌∙◌}
use mathlib.Core.Bool.{Bool, true, false, ◌&&◌}
use mathlib.Core.List.{List, [], ◌∷◌}
use Prim.Native.Nat.{ℕ, zero, suc, ◌≤◌, ◌<◌}
use native.Mathlib.Omega.{arith}
use lib.ListN.{length, get_or}
use lib.Dec.{leb, ltb, eqb}
use borrow.Author.Tests.{le-leb, lt-leb, leb-true, le-ltb, lt-ltb, ltb-false}
use Rattle.lists.specs.Lists.{over}
use Rattle.lists.specs.Keep.{bit}
use Rattle.lists.proofs.Tests.{both}
use Rattle.lists.proofs.Front.{over-own}
use Rattle.index.specs.declared.Index.{Index}
use Rattle.std.specs.Prelude.{Some, None}
use Rattle.words.specs.Words.{Record, record_words, words_of, fields_in, typed, record_in, record_beside}

-- a byte fits
pub byte_typed : (b r c : ℕ) → typed b r c ≡ true → b < 256
byte_typed b r c h = omega (arith, leb-true b 255 (both _ _ (both _ _ h).0).0)

flags-typed : (b r c : ℕ) → typed b r c ≡ true → (leb r 1 ≡ true) × (leb c 1 ≡ true)
flags-typed b r c h =
    let parts = both (leb b 255 && leb r 1) (leb c 1) h in
    ((both (leb b 255) (leb r 1) parts.0).1, parts.1)

module _ (ws : List ℕ) where
  pub too_few : length ws < record_words → None ≡ record_in ws
  unfolding record_in
  too_few h = rw (lt-leb record_words (length ws) h)

  module _ (h : record_words ≤ length ws) where
    pub untyped : typed (get_or ws 3 0) (get_or ws 4 0) (get_or ws 7 0) ≡ false → None ≡ record_in ws
    unfolding record_in
    untyped e = rw (le-leb record_words (length ws) h, e)

    pub all_typed : typed (get_or ws 3 0) (get_or ws 4 0) (get_or ws 7 0) ≡ true → Some (fields_in ws) ≡ record_in ws
    unfolding record_in
    all_typed e = rw (le-leb record_words (length ws) h, e)

  -- a record is that of eight words at least, which are typed
  pub said : (x : Index) → Some x ≡ record_in ws → (record_words ≤ length ws) × ((typed (get_or ws 3 0) (get_or ws 4 0) (get_or ws 7 0) ≡ true) × (x ≡ fields_in ws))
  unfolding record_in
  said x e = go (leb record_words (length ws) && typed (get_or ws 3 0) (get_or ws 4 0) (get_or ws 7 0)) refl
    where
      record_or : Record → Index
      record_or (Some y) = y
      record_or None = x

      go : (b : Bool) → (leb record_words (length ws) && typed (get_or ws 3 0) (get_or ws 4 0) (get_or ws 7 0)) ≡ b →
          (record_words ≤ length ws) × ((typed (get_or ws 3 0) (get_or ws 4 0) (get_or ws 7 0) ≡ true) × (x ≡ fields_in ws))
      go true t =
          let parts = both (leb record_words (length ws)) (typed (get_or ws 3 0) (get_or ws 4 0) (get_or ws 7 0)) t in
          (leb-true record_words (length ws) parts.0, (parts.1, ap record_or {x = Some x} {y = Some (fields_in ws)} (rw t at e)))
      go false t = absurd (let z : ◌≡◌ {A = ℕ} 0 1 = cc (rw t at e) in omega arith)

  pub eight : (x : Index) → Some x ≡ record_in ws → record_words ≤ length ws
  eight x e = (said x e).0

  module _ (places : ℕ) (answer : List ℕ) where
    pub few-places : length answer < places → None ≡ record_beside places ws answer
    unfolding record_beside
    few-places h = rw (lt-ltb (length answer) places h)

    pub enough-places : places ≤ length answer → record_in ws ≡ record_beside places ws answer
    unfolding record_beside
    enough-places h = rw (le-ltb (length answer) places h)

    -- a record beside an answer: there are the places, and it is the words' record
    pub beside : (x : Index) → Some x ≡ record_beside places ws answer → (places ≤ length answer) × (Some x ≡ record_in ws)
    unfolding record_beside
    beside x e = go (ltb (length answer) places) refl
      where
        go : (b : Bool) → ltb (length answer) places ≡ b → (places ≤ length answer) × (Some x ≡ record_in ws)
        go true t = absurd (let z : ◌≡◌ {A = ℕ} 0 1 = cc (rw t at e) in omega arith)
        go false t = (ltb-false (length answer) places t, rw t at e)

-- ---- what one call writes the next one reads

flag-back : (b : Bool) → eqb (bit b) 1 ≡ b
flag-back true = refl
flag-back false = refl

flag-typed : (b : Bool) → leb (bit b) 1 ≡ true
flag-typed true = refl
flag-typed false = refl

module _ (x : Index) (fs : List ℕ) where
  fields_back : fields_in (over (words_of x) fs) ≡ x
  unfolding fields_in words_of over
  fields_back =
      λ i. record {
        dim = x.dim;
        working_dim = x.working_dim;
        seed = x.seed;
        bits = x.bits;
        residual = flag-back x.residual i;
        n = x.n;
        live = x.live;
        cascade = flag-back x.cascade i;
      }

  pub read_back : x.bits ≤ 255 → Some x ≡ record_in (over (words_of x) fs)
  unfolding words_of over
  read_back h =
      ap Some (sym fields_back)
      ∙ all_typed (over (words_of x) fs) (omega arith) (rw (le-leb x.bits 255 h, flag-typed x.residual) (flag-typed x.cascade))

-- ---- what was read and is written again leaves the words as they were

word-of-flag : (w : ℕ) → leb w 1 ≡ true → bit (eqb w 1) ≡ w
word-of-flag zero h = refl
word-of-flag (suc zero) h = refl
word-of-flag (suc (suc w)) h = absurd (let z = leb-true (suc (suc w)) 1 h in omega (arith, z))

pub written-again : (ws : List ℕ) (x : Index) → Some x ≡ record_in ws → ws ≡ over (words_of x) ws
unfolding words_of fields_in
written-again ws x e =
    let s = said ws x e in
    let flags = flags-typed (get_or ws 3 0) (get_or ws 4 0) (get_or ws 7 0) s.1.0 in
    let residual = word-of-flag (get_or ws 4 0) flags.0 in
    let cascade = word-of-flag (get_or ws 7 0) flags.1 in
    sym
    (ap (λ (y : Index). over (words_of y) ws) s.1.1
    ∙ ap (λ (l : List ℕ). over l ws) (λ i. get_or ws 0 0 ∷ get_or ws 1 0 ∷ get_or ws 2 0 ∷ get_or ws 3 0 ∷ residual i ∷ get_or ws 5 0 ∷ get_or ws 6 0 ∷ cascade i ∷ [])
    ∙ over-own (λ i. get_or ws i 0) record_words 0 ws s.0 (λ i h. refl))
