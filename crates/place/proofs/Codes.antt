-- The code of a vector in the places of a slot.
use mathlib.Core.Path.{◌≡◌, refl, sym, ap, subst, ◌∙◌}
use mathlib.Core.Bool.{Bool, true, false, cond}
use mathlib.Core.List.{List, [], ◌++◌, append_assoc}
use mathlib.Core.Option.{Option, none, some}
use Prim.Native.Nat.{ℕ, ◌+◌, ◌-◌, ◌*◌, ◌^◌, ◌≤◌, ◌<◌}
use native.Mathlib.Nat.{suc-mul}
use native.Mathlib.Decide.{dec_lt}
use native.Mathlib.Omega.{arith}
use borrow.Author.Tests.{leb-true}
use borrow.Rule.Slice.PartMut.{put_mid}
use lib.Dec.{T, leb}
use lib.ListN.{length, take, drop, set}
use lib.Seq.{drop-drop}
use lib.Ieee.{Float}
use Rattle.lists.specs.Lists.{splice}
use Rattle.lists.proofs.Tests.{both}
use Rattle.lloyd.specs.Tables as Tables
use Rattle.lloyd.specs.Tables.{levels_of, centroids_of, boundaries_of}
use Rattle.lloyd.proofs.Places.{lent}
use Rattle.lloyd.proofs.Widths.{centroids-length, boundaries-length, boundaries-count}
use Rattle.codes.specs.Slots.{block_at}
use Rattle.codes.specs.Writing.{at_width, spare_after}
use Rattle.codes.proofs.Slots.{block-there, length-block}
use Rattle.codes.specs.Stage.{Stage}
use Rattle.unit.proofs.Rotatable.{padded-most}
use Rattle.encode.specs.declared.Header.{Header}
use Rattle.encode.specs.declared.Scales.{Scales}
use Rattle.encode.specs.Header.{padded, block_size}
use Rattle.encode.specs.Coding.{table}
use Rattle.encode.specs.Coded as Coded
use Rattle.encode.specs.Coded.{Code}
use Rattle.encode.specs.Calls.{Stages, stages, spares_after, encodable, placed, encoded_into}
use Rattle.encode.proofs.Fit.{is-encodable}
use Rattle.index.specs.Arrays.{Arrays}
use Rattle.index.specs.State.{slot_at, put_slot}
use Rattle.index.specs.Codec.{table_of, encoded}
use Rattle.index.specs.Fit.{between}
use Rattle.index.specs.Step.{Item}
use Rattle.index.specs.Sound.{block_length, Ranged}
use Rattle.index.proofs.Encoded.{encoded-shaped}
use Rattle.fit.proofs.Rooms.{in-width}
use Rattle.place.specs.Place.{recoded, put_code, with_stages, Codable}

-- ---- a header in range

pub within : (low high x : ℕ) → between low high x ≡ true → (low ≤ x) × (x ≤ high)
within low high x e = let b = both (leb low x) (leb x high) e in (leb-true low x b.0, leb-true x high b.1)

-- what holds at each of the three widths
at-widths : (P : ℕ → Type 0) → P 4 → P 5 → P 6 → (w : ℕ) → 4 ≤ w → w ≤ 6 → P w
at-widths P four five six w l m =
    elim (dec_lt w 5) [
      | yes p ↦ let e : 4 ≡ w = omega arith in subst P e four
      | no p ↦ elim (dec_lt w 6) [
        | yes q ↦ let e : 5 ≡ w = omega arith in subst P e five
        | no q ↦ let e : 6 ≡ w = omega arith in subst P e six
      ]
    ]

levels-at : (w : ℕ) → 4 ≤ w → w ≤ 6 → (0 < levels_of w) × (levels_of w ≤ 2 ^ w)
unfolding levels_of
levels-at = at-widths (λ w. (0 < levels_of w) × (levels_of w ≤ 2 ^ w)) (omega arith, omega arith) (omega arith, omega arith) (omega arith, omega arith)

module _ (h : Header) (r : Ranged h) where
  wide : (4 ≤ h.bits) × (h.bits ≤ 6)
  wide = within 4 6 h.bits r.bits

  pub some-levels : 0 < levels_of h.bits
  some-levels = (levels-at h.bits wide.0 wide.1).0

  few-boundaries : length (boundaries_of h.bits) < 2 ^ h.bits
  few-boundaries = let l = levels-at h.bits wide.0 wide.1 in omega (arith, boundaries-length h.bits, l.0, l.1)

  working-some : 1 ≤ h.working_dim
  working-some = (within 1 h.dim h.working_dim r.working_dim).0

  working-most : h.working_dim ≤ 4096
  working-most = omega (arith, (within 1 h.dim h.working_dim r.working_dim).1, (within 1 4096 h.dim r.dim).1)

  -- the bytes of a slot, as the program asks for them
  size_is : (b : ℕ) → b ≡ at_width h.bits (block_size h) → b ≡ block_size h
  size_is b e = e ∙ in-width h.bits (block_size h) wide.0 wide.1

-- the tables of the width, in the first places of arrays
pub by-tables : (h : Header) (n : ℕ) → n ≡ levels_of h.bits → (bs cs : List Float) → bs ≡ Tables.in_places (boundaries_of h.bits) → cs ≡ Tables.in_places (centroids_of h.bits) →
    (fresh : Bool) (v : Item) (block block2 : List ℕ) → encoded_into (table (take (n - 1 - 0) bs) (take (n - 0) cs)) h fresh v block block2 ≡ encoded_into (table_of h) h fresh v block block2
by-tables h n e bs cs f g fresh v block block2 =
    λ j. encoded_into
    (table (lent (boundaries_of h.bits) bs (n - 1) f (boundaries-count h.bits n e) j) (lent (centroids_of h.bits) cs n g (e ∙ sym (centroids-length h.bits)) j))
    h fresh v block block2

-- ---- a part of an array, lent and put back

mid-splice : (from n : ℕ) (xs ys : List ℕ) → length ys ≡ n → put_mid from (from + n - from) xs ys ≡ splice from ys xs
unfolding splice
mid-splice from n xs ys e =
    ap (λ (k : ℕ). take from xs ++ (ys ++ drop k (drop from xs))) {x = from + n - from} {y = n} (omega arith)
    ∙ ap (λ (zs : List ℕ). take from xs ++ (ys ++ zs)) (drop-drop n from xs ∙ ap (λ (k : ℕ). drop (from + k) xs) (sym e))
    ∙ sym (append_assoc (take from xs) ys (drop (from + length ys) xs))

-- ---- the places of slot i

module _ (h : Header) (a : Arrays) (i : ℕ) (v : Item) (ok : Codable h a i v) where
  abbrev size : ℕ
  size = block_size h

  -- the parts that are lent, for a size b
  abbrev part : ℕ → List ℕ → List ℕ
  part b xs = take (i * b + b - i * b) (drop (i * b) xs)

  abbrev put_part : ℕ → List ℕ → List ℕ → List ℕ
  put_part b xs ys = put_mid (i * b) (i * b + b - i * b) xs ys

  ends : i * size + size ≤ length a.codes
  ends = omega (arith, suc-mul i size, ok.codes)

  ends2 : h.residual ≡ true → i * size + size ≤ length a.codes2
  ends2 e = omega (arith, suc-mul i size, ok.codes2 e)

  part-block : (xs : List ℕ) → i * size + size ≤ length xs → part size xs ≡ block_at size i xs
  part-block xs l = ap (λ (k : ℕ). take k (drop (i * size) xs)) {x = i * size + size - i * size} {y = size} (omega arith) ∙ sym (block-there size i xs l)

  encodes : (block2 : List ℕ) → (h.residual ≡ true → length block2 ≡ size) →
      encodable h (length (table_of h).boundaries) (length v.vector) (length (block_at size i a.codes)) (length block2) ≡ true
  encodes block2 e =
      let r = ok.header in
      let most = padded-most h.working_dim (working-most h r) in
      let long = length-block size i a.codes ends in
      is-encodable h (length (table_of h).boundaries) (length v.vector) (length (block_at size i a.codes)) (length block2)
      (record {
        rotates = record { some = working-some h r; most = working-most h r; has = ok.entries; room = most };
        first = record { width = record { some = omega (arith, (wide h r).0); most = omega (arith, (wide h r).1) }; table = few-boundaries h r; most = most; size = long };
        second = λ t. e t ∙ sym long;
      })

  -- ---- the code

  abbrev old : Code
  old = (slot_at h a i).code

  abbrev code : Bool → Code
  code fresh = recoded h fresh old v

  module _ (fresh r : Bool) (e : h.residual ≡ r) (block2 : List ℕ) (f : r ≡ true → block2 ≡ block_at size i a.codes2) where
    coded : placed (encoded h (spares_after fresh h.bits (padded h) (block_at size i a.codes) block2) v) block2 ≡ placed (code fresh) block2
    unfolding recoded Coded.encoded_by_table spare_after slot_at
    coded = go fresh r e f
      where
        go : (fresh r : Bool) → h.residual ≡ r → (r ≡ true → block2 ≡ block_at size i a.codes2) →
            placed (encoded h (spares_after fresh h.bits (padded h) (block_at size i a.codes) block2) v) block2 ≡ placed (recoded h fresh (slot_at h a i).code v) block2
        go true r e f = refl
        go false true e f = rw (e, f refl)
        go false false e f = rw e

    into : encoded_into (table_of h) h fresh v (block_at size i a.codes) block2 ≡ placed (code fresh) block2
    unfolding encoded_into
    into = rw (encodes block2 (λ t. ap length (f (sym e ∙ t)) ∙ length-block size i a.codes2 (ends2 t))) coded

  -- both stages over the places of the slot, or the first alone
  abbrev put_stages : Bool → Stages → Arrays
  put_stages both t =
      with_stages a (splice (i * size) t.first.block a.codes) (set a.scales i t.first.scale)
      (cond both (splice (i * size) t.second.block a.codes2) a.codes2) (cond both (set a.scales2 i t.second.scale) a.scales2)

  put-stages : (fresh r : Bool) → h.residual ≡ r → (block2 : List ℕ) → put_stages r (placed (code fresh) block2) ≡ put_code h a fresh i v
  unfolding recoded Coded.encoded_by_table put_code put_slot
  put-stages fresh true e block2 = rw e
  put-stages fresh false e block2 = rw e

  -- ---- their blocks

  module _ (fresh : Bool) (block2 : List ℕ) where
    first-size : length (placed (code fresh) block2).first.block ≡ size
    unfolding recoded
    first-size = (encoded-shaped h _ v).first

    second-size : h.residual ≡ true → length (placed (code fresh) block2).second.block ≡ size
    unfolding recoded
    second-size e = go (code fresh).second ((encoded-shaped h _ v).second ∙ rw e)
      where
        go : (o : Option Stage) → block_length o ≡ some size → length (placed (record { first = (code fresh).first; second = o }) block2).second.block ≡ size
        go none p = absurd (let z : ◌≡◌ {A = ℕ} 0 1 = cc in omega arith)
        go (some g) p = cc

  -- ---- the laws

  module _ (fresh : Bool) (g : Scales) (block block2 : List ℕ) where
    residual-at : h.residual ≡ true → stages g block block2 ≡ encoded_into (table_of h) h fresh v (part size a.codes) (part size a.codes2) →
        with_stages a (put_part size a.codes block) (set a.scales i g.scale) (put_part size a.codes2 block2) (set a.scales2 i g.scale2) ≡ put_code h a fresh i v
    residual-at e s =
        let b2 = block_at size i a.codes2 in
        let t : stages g block block2 ≡ placed (code fresh) b2 =
        s ∙ (λ j. encoded_into (table_of h) h fresh v (part-block a.codes ends j) (part-block a.codes2 (ends2 e) j)) ∙ into fresh true e b2 (λ _. refl) in
        let one = mid-splice (i * size) size a.codes block (ap (λ (u : Stages). length u.first.block) t ∙ first-size fresh b2) in
        let two = mid-splice (i * size) size a.codes2 block2 (ap (λ (u : Stages). length u.second.block) t ∙ second-size fresh b2 e) in
        (λ j. with_stages a (one j) (set a.scales i g.scale) (two j) (set a.scales2 i g.scale2)) ∙ ap (put_stages true) t ∙ put-stages fresh true e b2

    plain_at : h.residual ≡ false → stages g block block2 ≡ encoded_into (table_of h) h fresh v (part size a.codes) [] →
        with_stages a (put_part size a.codes block) (set a.scales i g.scale) a.codes2 a.scales2 ≡ put_code h a fresh i v
    plain_at e s =
        let t : stages g block block2 ≡ placed (code fresh) [] =
        s ∙ ap (λ (b : List ℕ). encoded_into (table_of h) h fresh v b []) (part-block a.codes ends) ∙ into fresh false e [] (λ f. absurd (subst T (sym f) tt)) in
        let one = mid-splice (i * size) size a.codes block (ap (λ (u : Stages). length u.first.block) t ∙ first-size fresh []) in
        (λ j. with_stages a (one j) (set a.scales i g.scale) a.codes2 a.scales2) ∙ ap (put_stages false) t ∙ put-stages fresh false e []

  -- ---- as the program meets it, b being the size that it works out

  module _ (b : ℕ) (w : b ≡ at_width h.bits (block_size h)) where
    is : b ≡ size
    is = size_is h ok.header b w

    pub place_end : i * b + b ≤ length a.codes
    place_end = rw is ends

    pub place-end2 : h.residual ≡ true → i * b + b ≤ length a.codes2
    place-end2 e = rw is (ends2 e)

    module _ (fresh : Bool) (g : Scales) (block block2 : List ℕ) where
      pub put-residual : h.residual ≡ true → stages g block block2 ≡ encoded_into (table_of h) h fresh v (part b a.codes) (part b a.codes2) →
          with_stages a (put_part b a.codes block) (set a.scales i g.scale) (put_part b a.codes2 block2) (set a.scales2 i g.scale2) ≡ put_code h a fresh i v
      put-residual e s = rw is (residual-at fresh g block block2 e (rw is at s))

      pub put-plain : h.residual ≡ false → stages g block block2 ≡ encoded_into (table_of h) h fresh v (part b a.codes) [] →
          with_stages a (put_part b a.codes block) (set a.scales i g.scale) a.codes2 a.scales2 ≡ put_code h a fresh i v
      put-plain e s = rw is (plain_at fresh g block block2 e (rw is at s))
