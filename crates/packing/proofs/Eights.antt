-- Codes in eights. Eight codes of w bits are w bytes, so each eight is packed by itself, as one number.
use mathlib.Core.Path.{◌≡◌, refl, sym, ap, ap₂, ◌∙◌}
use mathlib.Core.List.{List, [], ◌∷◌, ◌++◌, append-nil, append_assoc}
use Prim.Native.Nat.{ℕ, ◌+◌, ◌-◌, ◌*◌, ◌/◌, ◌^◌, ◌<◌, ◌≤◌}
use native.Mathlib.Nat.{mul-le-mul, mul-le-mul_left, mul-add, mul-zero, add-zero, lt_of_lt_of_le}
use native.Mathlib.Omega.{arith}
use borrow.Rule.Slice.PartMut.{mid_of, put_mid, same_len_mid}
use lib.Dec.{lit<}
use lib.Pow.{pow_mono, pow-add}
use lib.ListN.{length, take, drop, length-append, length-drop, take-append-drop, drop_of_length-le}
use lib.Seq.{length-take-le, take_all, take-add, take_at, drop_at, drop-drop, drop-append_seam}
use Rattle.lists.specs.Lists.{over}
use Rattle.digits.specs.Digits.{number, digits, Below}
use Rattle.digits.proofs.Places.{pow-mul, div-pow-add}
use Rattle.digits.proofs.Below.{below-take, below-drop}
use Rattle.digits.proofs.Number.{number_append, number_lt, number-drop}
use Rattle.digits.proofs.Digits.{length_digits, digits-joined}
use Rattle.codes.specs.Packing.{bytes_per_vector, packed, spare}
use Rattle.codes.proofs.Packing.{length-packed}
use Rattle.codes.specs.Writing.{Packable}

-- ---- up to eight codes as one number

pub joined-lt : (w : ℕ) (codes : List ℕ) → w ≤ 8 → length codes ≤ 8 → Below (2 ^ w) codes → number (2 ^ w) codes < 2 ^ 64
joined-lt w codes h k fit =
    lt_of_lt_of_le (number_lt (2 ^ w) codes fit) (rw (← pow-mul 2 w (length codes)) (pow_mono {i = w * length codes} {j = 64} (mul-le-mul h k)))

-- one code more, from above: `sum` is the number of the codes after those left in `rest`, and the last of them is next
pub joined-fits : (w : ℕ) (codes rest less : List ℕ) (x base sum : ℕ) → rest ≡ less ++ x ∷ [] → base ≡ 2 ^ w → rest ++ drop (length rest) codes ≡ codes
    → sum ≡ number (2 ^ w) (drop (length rest) codes) → w ≤ 8 → length codes ≤ 8 → Below (2 ^ w) codes → x + base * sum < 2 ^ 64
joined-fits w codes rest less x base sum step e seam total h k fit =
    let all : less ++ (x ∷ drop (length rest) codes) ≡ codes = sym (append_assoc less (x ∷ []) (drop (length rest) codes)) ∙ ap (λ (r : List ℕ). r ++ drop (length rest) codes) (sym step) ∙ seam in
    let last : drop (length less) codes ≡ x ∷ drop (length rest) codes = ap (drop (length less)) (sym all) ∙ drop-append_seam less (x ∷ drop (length rest) codes) in
    let value : number (2 ^ w) (drop (length less) codes) ≡ x + base * sum = rw (last, e, total) in
    rw value at (joined-lt w (drop (length less) codes) h (rw (length-drop (length less) codes) (omega arith)) (below-drop (2 ^ w) (length less) codes fit))

-- ---- codes whose bits fill n bytes, and more codes after them

bytes-add : (w p q n : ℕ) → w * p ≡ 8 * n → bytes_per_vector w (p + q) ≡ n + bytes_per_vector w q
unfolding bytes_per_vector
bytes-add w p q n e = omega arith

bytes-all : (w p n : ℕ) → w * p ≡ 8 * n → bytes_per_vector w p ≡ n
unfolding bytes_per_vector
bytes-all w p n e = omega arith

packed-whole : (w : ℕ) (xs : List ℕ) (n : ℕ) → w * length xs ≡ 8 * n → packed w xs 0 ≡ digits 256 n (number (2 ^ w) xs)
unfolding packed
packed-whole w xs n e = rw (mul-zero (2 ^ (w * length xs)), add-zero (number (2 ^ w) xs), bytes-all w (length xs) n e)

-- they are packed apart, and the spare bits stand above the last
pub packed-append : (w : ℕ) (xs ys : List ℕ) (s n : ℕ) → w * length xs ≡ 8 * n → Below (2 ^ w) xs → packed w (xs ++ ys) s ≡ packed w xs 0 ++ packed w ys s
unfolding packed
packed-append w xs ys s n e fit =
    let p = length xs in
    let q = length ys in
    let v = number (2 ^ w) xs in
    let place : (2 ^ w) ^ p ≡ 256 ^ n = sym (pow-mul 2 w p) ∙ ap (λ (z : ℕ). 2 ^ z) e ∙ pow-mul 2 8 n in
    let low : v < 256 ^ n = rw (← place) (number_lt (2 ^ w) xs fit) in
    let up : 2 ^ (w * (p + q)) ≡ 256 ^ n * 2 ^ (w * q) = rw (mul-add w p q, pow-add 2 (w * p) (w * q), pow-mul 2 w p, place) in
    let whole : number (2 ^ w) (xs ++ ys) + 2 ^ (w * length (xs ++ ys)) * s ≡ v + 256 ^ n * (number (2 ^ w) ys + 2 ^ (w * q) * s) =
    rw (length-append xs ys, number_append (2 ^ w) xs ys, place, up) (omega arith)
    in
    rw (whole, length-append xs ys, bytes-add w p q n e, packed-whole w xs n e)
    (digits-joined 256 (lit< tt) n (bytes_per_vector w q) v (number (2 ^ w) ys + 2 ^ (w * q) * s) low)

-- ---- an array whose front is written, part by part

over-part : (ys zs xs : List ℕ) (a n : ℕ) → length ys ≡ a → length zs ≡ n → put_mid a n (over ys xs) zs ≡ over (ys ++ zs) xs
unfolding over
over-part ys zs xs a n e f =
    let rest = drop (length ys) xs in
    rw (take_at ys rest a e, drop_at ys rest a e, drop-drop n (length ys) xs, length-append ys zs, f) (sym (append_assoc ys zs (drop (length ys + n) xs)))

-- ---- the loop over eights

-- the first k eights are written over the block
pub record Eights (w : ℕ) (codes block : List ℕ) (k : ℕ) (now : List ℕ) : Type 0 where
  pub few : k ≤ length codes / 8
  pub same : length now ≡ length block
  pub places : now ≡ over (packed w (take (8 * k) codes) 0) block

pub eights-none : (w : ℕ) (codes block : List ℕ) → Eights w codes block 0 block
unfolding over
eights-none w codes block =
    record { few = omega arith; same = refl; places = ap (λ (ds : List ℕ). over ds block) (sym (packed-whole w [] 0 (omega arith))) }

module _ (w : ℕ) (codes block : List ℕ) (ok : Packable w codes (length block)) where
  module _ (k : ℕ) where
    front-codes : k ≤ length codes / 8 → w * length (take (8 * k) codes) ≡ 8 * (w * k)
    front-codes h = rw (length-take-le (8 * k) codes (omega arith)) (omega arith)

    front_bytes : k ≤ length codes / 8 → length (packed w (take (8 * k) codes) 0) ≡ w * k
    front_bytes h = length-packed w (take (8 * k) codes) 0 ∙ bytes-all w (length (take (8 * k) codes)) (w * k) (front-codes h)

    module _ (h : k < length codes / 8) where
      abbrev eight : List ℕ
      eight = take (8 * k + 8 - 8 * k) (drop (8 * k) codes)

      -- the eight codes after them, and their bytes, are there
      pub eight-codes : length eight ≡ 8
      eight-codes = length-take-le (8 * k + 8 - 8 * k) (drop (8 * k) codes) (rw (length-drop (8 * k) codes) (omega arith)) ∙ omega arith

      pub eight-bytes : w * k + w ≤ length block
      unfolding bytes_per_vector
      eight-bytes =
          let more : 8 * k + 8 ≤ length codes = omega arith in
          omega (arith, ok.size, mul-le-mul_left w more)

      pub eights-next : (now last : List ℕ) (value : ℕ) → Eights w codes block k now → value ≡ number (2 ^ w) eight →
          last ≡ digits 256 (length (mid_of (w * k) (w * k + w - w * k) now)) value → Eights w codes block (k + 1) (put_mid (w * k) (w * k + w - w * k) now last)
      eights-next now last value inv e d =
          let n = w * k + w - w * k in
          let part : length (mid_of (w * k) n now) ≡ n = length-take-le n (drop (w * k) now) (rw (length-drop (w * k) now) (omega (arith, inv.same, eight-bytes))) in
          let size : length last ≡ n = rw d (length_digits 256 (length (mid_of (w * k) n now)) value ∙ part) in
          let written : last ≡ packed w eight 0 = rw (d, part, e) (sym (packed-whole w eight n (rw eight-codes (omega arith)))) in
          let codes-are : take (8 * k) codes ++ eight ≡ take (8 * (k + 1)) codes =
          sym (take-add (8 * k) (8 * k + 8 - 8 * k) codes) ∙ ap (λ (m : ℕ). take m codes) {x = 8 * k + (8 * k + 8 - 8 * k)} {y = 8 * (k + 1)} (omega arith)
          in
          let joins : packed w (take (8 * k) codes) 0 ++ last ≡ packed w (take (8 * (k + 1)) codes) 0 =
          rw (written, ← codes-are) (sym (packed-append w (take (8 * k) codes) eight 0 (w * k) (front-codes inv.few) (below-take (2 ^ w) (8 * k) codes ok.fit)))
          in
          record {
            few = omega arith;
            same = same_len_mid (w * k) n now last (size ∙ sym part) ∙ inv.same;
            places =
                rw inv.places
                (over-part (packed w (take (8 * k) codes) 0) last block (w * k) n (front_bytes inv.few) size ∙ ap (λ (ds : List ℕ). over ds block) joins);
          }

  -- ---- the codes that are left over, written over the rest of the block

  abbrev eights : ℕ
  eights = length codes / 8

  abbrev left : List ℕ
  left = take (length codes - 8 * eights) (drop (8 * eights) codes)

  left_is : left ≡ drop (8 * eights) codes
  left_is = take_all (length codes - 8 * eights) (drop (8 * eights) codes) (rw (length-drop (8 * eights) codes) (omega arith))

  length-left : length left ≡ length codes - 8 * eights
  length-left = ap length left_is ∙ length-drop (8 * eights) codes

  pub left-few : length left < 8
  left-few = omega (arith, length-left)

  pub left-bytes : w * eights ≤ length block
  unfolding bytes_per_vector
  left-bytes =
      let most : 8 * eights ≤ length codes = omega arith in
      omega (arith, ok.size, mul-le-mul_left w most)

  all_codes : 8 * eights + (length codes - 8 * eights) ≡ length codes
  all_codes = omega arith

  size-left : length block - w * eights ≡ bytes_per_vector w (length left)
  size-left =
      rw length-left
      (omega (arith, ok.size, bytes-add w (8 * eights) (length codes - 8 * eights) (w * eights) (omega arith), ap (λ (p : ℕ). bytes_per_vector w p) all_codes))

  -- the block after its eights are written
  module _ (now : List ℕ) (size : ℕ) (same : length now ≡ length block) (is : size ≡ length now) where
    abbrev part : List ℕ
    part = mid_of (w * eights) (size - w * eights) now

    part-is : part ≡ drop (w * eights) now
    part-is = take_all (size - w * eights) (drop (w * eights) now) (rw (length-drop (w * eights) now) (omega arith))

    length_part : length part ≡ length block - w * eights
    length_part = ap length part-is ∙ length-drop (w * eights) now ∙ ap (λ (n : ℕ). n - w * eights) same

    pub left-packable : Packable w left (length part)
    left-packable =
        record {
          width = ok.width;
          size = length_part ∙ size-left;
          fit = below-take (2 ^ w) (length codes - 8 * eights) (drop (8 * eights) codes) (below-drop (2 ^ w) (8 * eights) codes ok.fit);
        }

    module _ (bytes : Below 256 block) (places : now ≡ over (packed w (take (8 * eights) codes) 0) block) where
      abbrev front : List ℕ
      front = packed w (take (8 * eights) codes) 0

      size-front : length front ≡ w * eights
      size-front = front_bytes eights (omega arith)

      rest-stays : part ≡ drop (w * eights) block
      unfolding over
      rest-stays = part-is ∙ rw (places, drop_at front (drop (length front) block) (w * eights) size-front, size-front)

      spare-left : spare w (length left) part ≡ spare w (length codes) block
      unfolding spare
      spare-left =
          let v = number 256 block in
          let at : 8 * (w * eights) + w * (length codes - 8 * eights) ≡ w * length codes = omega (arith, ap (λ (z : ℕ). w * z) all_codes) in
          rw (rest-stays, length-left, number-drop 256 (w * eights) block bytes, ← pow-mul 2 8 (w * eights), div-pow-add 2 v (8 * (w * eights)) (w * (length codes - 8 * eights)), at)

      pub left-written : (last : List ℕ) → last ≡ packed w left (spare w (length left) part) →
          put_mid (w * eights) (size - w * eights) now last ≡ packed w codes (spare w (length codes) block)
      unfolding over
      left-written last e =
          let s = spare w (length codes) block in
          let no_more : drop (size - w * eights) (drop (w * eights) now) ≡ [] = drop_of_length-le (drop (w * eights) now) {i = size - w * eights} (rw (length-drop (w * eights) now) (omega arith)) in
          let begins : take (w * eights) now ≡ front = rw places (take_at front (drop (length front) block) (w * eights) size-front) in
          let codes-are : take (8 * eights) codes ++ left ≡ codes = ap (λ (cs : List ℕ). take (8 * eights) codes ++ cs) left_is ∙ take-append-drop (8 * eights) codes in
          ap₂ (λ (a b : List ℕ). a ++ (last ++ b)) begins no_more
          ∙ ap (λ (cs : List ℕ). front ++ cs) (append-nil last ∙ e ∙ ap (packed w left) spare-left)
          ∙ sym (packed-append w (take (8 * eights) codes) left s (w * eights) (front-codes eights (omega arith)) (below-take (2 ^ w) (8 * eights) codes ok.fit))
          ∙ ap (λ (cs : List ℕ). packed w cs s) codes-are
