-- Marks written as words: the bits of one, and the words of all slots.
use mathlib.Core.Path.{◌≡◌, refl, sym, ap, ◌∙◌}
use mathlib.Core.Bool.{Bool, true, false, cond, ◌&&◌, ◌||◌}
use mathlib.Core.List.{List}
use Prim.Native.Nat.{ℕ, ◌+◌, ◌-◌, ◌*◌, ◌/◌, ◌%◌, ◌^◌, ◌≤◌, ◌<◌, min}
use native.Mathlib.Nat.{add-zero, div-lt_iff_lt-mul}
use native.Mathlib.Omega.{arith}
use native.Mathlib.Decide.{dec_lt, ℕ_discrete}
use lib.Dec.{ltb, eqb}
use lib.ListN.{length, get_or, set, length-set}
use lib.Seq.{get_or-set_same, get_or-set_other}
use lib.Pow.{pow_pos, pow-add, shr-shr}
use mir.Val.{bool_byte}
use borrow.Author.Tests.{lt-ltb, le-ltb}
use Rattle.lists.specs.Lists.{tab, over}
use Rattle.lists.specs.Keep.{bit}
use Rattle.lists.proofs.Bits.{as-bit}
use Rattle.lists.proofs.Front.{over-ext}
use Rattle.digits.specs.Digits.{bit_of}
use Rattle.marks.specs.Live.{mark_in, marks_in}
use Rattle.marks.proofs.Words.{length-marks, get_or-marks, bit-zero, bit-past, set-one}
use Rattle.marks.specs.Word.{Bits}
use Rattle.nearest.specs.Limit.{level, is_marked}
use Rattle.nearest.proofs.Counting.{level-up, level-none}

-- ---- a word

-- the bits of the numbers below n stand at the top of a word
pub record Top (p : ℕ → Bool) (n word : ℕ) : Type 0 where
  pub small : word < 2 ^ 64
  pub are : (j : ℕ) → j < n → bit_of word (64 - n + j) ≡ bit (p j)

module _ {p : ℕ → Bool} {n w : ℕ} (m : Top p n w) where
  module _ (l : n < 64) where
    low : w / 2 < 2 ^ 63
    low = omega (arith, m.small)

    -- one place down
    kept : (j : ℕ) → j < n → bit_of (w / 2) (64 - (n + 1) + j) ≡ bit (p j)
    kept j k = ap (λ (z : ℕ). z % 2) (shr-shr w 1 (64 - (n + 1) + j)) ∙ ap (bit_of w) {x = 1 + (64 - (n + 1) + j)} {y = 64 - n + j} (omega arith) ∙ m.are j k

    pub top-more : (b : Bool) → b ≡ p n → Top p (n + 1) (w / 2 + bool_byte b * 2 ^ 63 % 2 ^ 64)
    top-more true e =
        let clear = bit-past (w / 2) 63 63 low (omega arith) in
        let s = set-one (w / 2) 63 clear in
        record {
          small = omega (arith, low);
          are = λ j k. elim (ℕ_discrete j n) [
            | yes q ↦ ap (bit_of (w / 2 + 2 ^ 63)) {x = 64 - (n + 1) + j} {y = 63} (omega arith) ∙ s.here ∙ rw q (ap bit e)
            | no q ↦ s.others (64 - (n + 1) + j) (λ z. omega arith) ∙ kept j (omega arith)
          ];
        }
    top-more false e =
        rw (add-zero (w / 2))
        (record {
          small = omega (arith, low);
          are = λ j k. elim (ℕ_discrete j n) [
            | yes q ↦ ap (bit_of (w / 2)) {x = 64 - (n + 1) + j} {y = 63} (omega arith) ∙ bit-past (w / 2) 63 63 low (omega arith) ∙ rw q (ap bit e)
            | no q ↦ kept j (omega arith)
          ];
        })

  pub top-all : n ≤ 64 → Bits p n (w / 2 ^ (64 - n))
  top-all l =
      let all : 2 ^ n * 2 ^ (64 - n) ≡ 2 ^ 64 = sym (pow-add 2 n (64 - n)) ∙ ap (λ (z : ℕ). 2 ^ z) {x = n + (64 - n)} {y = 64} (omega arith) in
      record {
        small = (div-lt_iff_lt-mul {k = 2 ^ (64 - n)} {x = w} {y = 2 ^ n} (pow_pos (64 - n))).1 (rw all m.small);
        are = λ j k. ap (λ (z : ℕ). z % 2) (shr-shr w (64 - n) j) ∙ m.are j k;
      }

-- ---- a loop over the slots of a word

pub record Marking (xs : List ℕ) (limit ties first word seen j : ℕ) : Type 0 where
  pub bits : Top (λ k. is_marked xs limit ties (first + k)) j word
  pub ties-seen : seen ≡ level xs limit (first + j)

pub marking-none : (xs : List ℕ) (limit ties first seen : ℕ) → seen ≡ level xs limit first → Marking xs limit ties first 0 seen 0
marking-none xs limit ties first seen e =
    record { bits = record { small = omega arith; are = λ j l. absurd (omega arith) }; ties-seen = e ∙ ap (level xs limit) (sym (add-zero first)) }

module _ {xs : List ℕ} {limit ties first word seen j : ℕ} (m : Marking xs limit ties first word seen j) (l : j < 64) (b : Bool)
    (e : b ≡ (ltb (get_or xs (first + j) 0) limit || (eqb (get_or xs (first + j) 0) limit && ltb seen ties))) where
  marked : b ≡ is_marked xs limit ties (first + j)
  unfolding is_marked
  marked = rw m.ties-seen at e

  pub marking-more : Marking xs limit ties first (word / 2 + bool_byte b * 2 ^ 63 % 2 ^ 64) (seen + bool_byte (eqb (get_or xs (first + j) 0) limit)) (j + 1)
  marking-more =
      record {
        bits = top-more m.bits l b marked;
        ties-seen =
            omega (
              arith,
              m.ties-seen,
              level-up xs limit (first + j),
              as-bit (eqb (get_or xs (first + j) 0) limit),
              ap (level xs limit) {x = first + (j + 1)} {y = first + j + 1} (omega arith),
            );
      }

-- ---- a loop over the words

-- the first i words are written, and the others are 0
pub record Marks (xs : List ℕ) (limit ties : ℕ) (old marks : List ℕ) (seen i : ℕ) : Type 0 where
  pub same : length marks ≡ length old
  pub front : (s : ℕ) → s < i * 64 → mark_in marks s ≡ cond (ltb s (length xs)) (bit (is_marked xs limit ties s)) 0
  pub rest : (g : ℕ) → i ≤ g → get_or marks g 0 ≡ 0
  pub ties-seen : seen ≡ level xs limit (min (i * 64) (length xs))

module _ (xs : List ℕ) (limit ties : ℕ) (old : List ℕ) (room : length xs ≤ length (marks_in old)) (zero_before : (i : ℕ) → get_or old i 0 ≡ 0) where
  pub marks-more : {marks : List ℕ} {seen i : ℕ} → Marks xs limit ties old marks seen i → i * 64 < length xs → (many word next : ℕ) → i * 64 + many ≡ min ((i + 1) * 64) (length xs)
      → Bits (λ k. is_marked xs limit ties (i * 64 + k)) many word → next ≡ level xs limit (i * 64 + many) → Marks xs limit ties old (set marks i word) next (i + 1)
  marks-more {marks} {seen} {i} m l many word next end b e =
      record {
        same = length-set marks i word ∙ m.same;
        front = front;
        rest = λ g k. get_or-set_other marks i g word 0 (λ q. omega arith) ∙ m.rest g (omega arith);
        ties-seen = e ∙ ap (level xs limit) end;
      }
    where
      there : i < length marks
      there = omega (arith, m.same, length-marks old)

      here : (s : ℕ) → i * 64 ≤ s → s < (i + 1) * 64 → bit_of word (s % 64) ≡ cond (ltb s (length xs)) (bit (is_marked xs limit ties s)) 0
      here s h k =
          elim (dec_lt s (length xs)) [
            | yes q ↦ b.are (s % 64) (omega arith) ∙ ap (λ (z : ℕ). bit (is_marked xs limit ties z)) {x = i * 64 + s % 64} {y = s} (omega arith) ∙ sym (rw (lt-ltb s (length xs) q))
            | no q ↦ bit-past word many (s % 64) b.small (omega arith) ∙ sym (rw (le-ltb s (length xs) (omega arith)))
          ]

      front : (s : ℕ) → s < (i + 1) * 64 → mark_in (set marks i word) s ≡ cond (ltb s (length xs)) (bit (is_marked xs limit ties s)) 0
      front s k =
          elim (dec_lt s (i * 64)) [
            | yes h ↦ ap (λ (w : ℕ). bit_of w (s % 64)) (get_or-set_other marks i (s / 64) word 0 (λ q. omega arith)) ∙ m.front s h
            | no h ↦ ap (λ (z : ℕ). bit_of (get_or (set marks i word) z 0) (s % 64)) {x = s / 64} {y = i} (omega arith)
                ∙ ap (λ (w : ℕ). bit_of w (s % 64)) (get_or-set_same marks i word 0 there) ∙ here s (omega arith) k
          ]

  pub marks_all : {marks : List ℕ} {seen i : ℕ} → Marks xs limit ties old marks seen i → length xs ≤ i * 64
      → marks_in marks ≡ over (tab (λ s. bit (is_marked xs limit ties s)) (length xs)) (marks_in old)
  marks_all {marks} {seen} {i} m l =
      over-ext (λ s. bit (is_marked xs limit ties s)) (length xs) 0 (marks_in old) (marks_in marks) room
      (length-marks marks ∙ ap (λ (k : ℕ). k * 64) m.same ∙ sym (length-marks old))
      (λ s k. get_or-marks marks s ∙ m.front s (omega arith) ∙ rw (lt-ltb s (length xs) k))
      (λ s k h. get_or-marks marks s ∙ past s k ∙ sym (get_or-marks old s ∙ rw (zero_before (s / 64)) (bit-zero (s % 64))))
    where
      past : (s : ℕ) → length xs ≤ s → mark_in marks s ≡ 0
      past s k =
          elim (dec_lt s (i * 64)) [
            | yes h ↦ m.front s h ∙ rw (le-ltb s (length xs) k)
            | no h ↦ rw (m.rest (s / 64) (omega arith)) (bit-zero (s % 64))
          ]

pub marks-none : (xs : List ℕ) (limit ties : ℕ) (old : List ℕ) → ((i : ℕ) → get_or old i 0 ≡ 0) → Marks xs limit ties old old 0 0
marks-none xs limit ties old z = record { same = refl; front = λ s l. absurd (omega arith); rest = λ g l. z g; ties-seen = sym (ap (level xs limit) {x = min (0 * 64) (length xs)} {y = 0} (omega arith) ∙ level-none xs limit) }
