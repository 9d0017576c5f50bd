-- Marks read out of words: their number, each of them, and that they tell the words.
use Rattle.std.specs.Int.Bits.{bit_and}
use Rattle.std.proofs.lemmas.Nat.Bits.{and_pow}
use mathlib.Core.Logic.{◌≢◌}
use mathlib.Core.Path.{◌≡◌, refl, sym, ap, ◌∙◌, subst}
use mathlib.Core.List.{List}
use Prim.Native.Nat.{ℕ, zero, suc, ◌+◌, ◌-◌, ◌*◌, ◌/◌, ◌%◌, ◌^◌, ◌≤◌, ◌<◌, min}
use native.Mathlib.Nat.{mod-lt, mod-eq_of_lt, zero-mul, one-mul, suc-mul, lt_of_lt_of_le, pow-suc, zero-div, div-one, div-eq_of_lt, add-zero}
use native.Mathlib.Omega.{arith}
use native.Mathlib.Decide.{dec_lt}
use lib.ListN.{length, get_or, set, replicate, length-set, length-replicate, get_or-eq_default}
use lib.Seq.{get_or-set_same, get_or-set_other, ext_get_or}
use lib.Dec.{ltb, eqb}
use lib.Pow.{pow_pos, pow_mono, pow-lt, pow-add, shr_lt, split, high, shr-shr, ones_split, ones_lt}
use lib.Bits.{block_half, block_odd}
use lib.Arith.{dbl_pred, digits_lt}
use borrow.Author.Tests.{lt-ltb, le-ltb}
use Rattle.lists.specs.Lists.{tab, over}
use Rattle.lists.specs.Keep.{bit}
use Rattle.lists.proofs.Laws.{length-tab, get_or-tab, tab-ext, length_over, get_or-zeros}
use Rattle.lists.proofs.Front.{get_d_front, get_or-rest}
use Rattle.lists.proofs.Entries.{set-tab, entries}
use Rattle.digits.specs.Digits.{bit_of}
use Rattle.marks.specs.Live.{mark_in, marks_in, no_marks}
use Rattle.marks.specs.Word.{BitSet, live_in, first_word}

-- ---- the marks of words

pub length-marks : (ws : List ℕ) → length (marks_in ws) ≡ length ws * 64
unfolding marks_in
length-marks ws = length-tab (mark_in ws) (length ws * 64)

pub bit-zero : (j : ℕ) → bit_of 0 j ≡ 0
bit-zero j = rw (zero-div (2 ^ j))

pub get_or-marks : (ws : List ℕ) (s : ℕ) → get_or (marks_in ws) s 0 ≡ mark_in ws s
unfolding marks_in
get_or-marks ws s =
    elim (dec_lt s (length ws * 64)) [
      | yes l ↦ get_or-tab (mark_in ws) (length ws * 64) s 0 l
      | no l ↦
          let past : length ws ≤ s / 64 = omega arith in
          get_or-eq_default (marks_in ws) 0 (rw (length-marks ws) (omega arith)) ∙ sym (rw (get_or-eq_default ws 0 past) (bit-zero (s % 64)))
    ]

-- the marks of word i
pub mark-at : (ws : List ℕ) (i j : ℕ) → j < 64 → get_or (marks_in ws) (i * 64 + j) 0 ≡ bit_of (get_or ws i 0) j
mark-at ws i j l =
    get_or-marks ws (i * 64 + j) ∙ ap (λ (z : ℕ). bit_of (get_or ws z 0) ((i * 64 + j) % 64)) (omega arith) ∙ ap (λ (z : ℕ). bit_of (get_or ws i 0) z) (omega arith)

-- past a number's bits they are 0
pub bit-past : (w n j : ℕ) → w < 2 ^ n → n ≤ j → bit_of w j ≡ 0
bit-past w n j l h = ap (λ (z : ℕ). z % 2) (div-eq_of_lt (lt_of_lt_of_le l (pow_mono {i = n} {j = j} h)))

-- a bit is 0 or 1
pub bit-low : (w j : ℕ) → bit_of w j ≤ 1
bit-low w j = let x : ℕ = w / 2 ^ j in omega arith

-- one that is 1 is a live slot's
pub one-live : (b : ℕ) → b ≤ 1 → eqb b 1 ≡ ltb 0 b
one-live zero l = refl
one-live (suc zero) l = refl
one-live (suc (suc b)) l = absurd (omega arith)

-- bit k + 1 is bit k of the half
bit-half : (w k : ℕ) → bit_of w (suc k) ≡ bit_of (w / 2) k
bit-half w k = ap (λ (z : ℕ). w / 2 ^ z % 2) {x = suc k} {y = 1 + k} (omega arith) ∙ ap (λ (z : ℕ). z % 2) (sym (shr-shr w 1 k))

-- ---- a number h * 2 ^ j + l: bit j is that of h, those below are l's, those above the rest of h

module _ (j h l : ℕ) (small : l < 2 ^ j) where
  bit_at : bit_of (h * 2 ^ j + l) j ≡ h % 2
  bit_at = ap (λ (z : ℕ). z % 2) (high h j small)

  bit-above : (k : ℕ) → bit_of (h * 2 ^ j + l) (j + suc k) ≡ bit_of (h / 2) k
  bit-above k = ap (λ (z : ℕ). z % 2) (sym (shr-shr (h * 2 ^ j + l) j (suc k)) ∙ ap (λ (z : ℕ). z / 2 ^ suc k) (high h j small)) ∙ bit-half h k

pub bit_below : (k i h l : ℕ) → bit_of (h * 2 ^ (suc i + k) + l) k ≡ bit_of l k
bit_below zero i h l = rw (add-zero (suc i), div-one (h * 2 ^ suc i + l), div-one l) (block_odd h i l)
bit_below (suc k) i h l =
    bit-half (h * 2 ^ (suc i + suc k) + l) k ∙ ap (λ (z : ℕ). bit_of z k)
    (ap (λ (z : ℕ). (h * 2 ^ z + l) / 2) {x = suc i + suc k} {y = suc (i + suc k)} (omega arith) ∙ block_half h (i + suc k) l
    ∙ ap (λ (z : ℕ). h * 2 ^ z + l / 2) {x = i + suc k} {y = suc i + k} (omega arith))
    ∙ bit_below k i h (l / 2) ∙ sym (bit-half l k)

-- the bits below k are those of the rest by 2 ^ k
pub bit-rest : (w k j : ℕ) → j < k → bit_of (w % 2 ^ k) j ≡ bit_of w j
bit-rest w k j l =
    sym (bit_below j (k - suc j) (w / 2 ^ k) (w % 2 ^ k)) ∙ ap (λ (z : ℕ). bit_of (w / 2 ^ k * 2 ^ z + w % 2 ^ k) j) {x = suc (k - suc j) + j} {y = k} (omega arith)
    ∙ ap (λ (z : ℕ). bit_of z j) (split w k)

-- bit j by the byte that it is in
abbrev pub spread_at : (word j : ℕ) → ℕ
spread_at w j = bit_and (w / 2 ^ (j / 8 * 8) % 256) (2 ^ (j % 8))

pub spread-live : (w j : ℕ) → ltb 0 (spread_at w j) ≡ live_in w j
spread-live w j =
    let byte : ℕ = w / 2 ^ (j / 8 * 8) in
    ap (ltb 0) (and_pow (byte % 256) (j % 8)) ∙ times (bit_of (byte % 256) (j % 8)) (j % 8) (bit-low (byte % 256) (j % 8))
    ∙ ap (ltb 0) (bit-rest byte 8 (j % 8) (omega arith) ∙ ap (λ (z : ℕ). z % 2) (shr-shr w (j / 8 * 8) (j % 8)) ∙ ap (bit_of w) (omega arith))
  where
    times : (b k : ℕ) → b ≤ 1 → ltb 0 (b * 2 ^ k) ≡ ltb 0 b
    times zero k l = ap (ltb 0) (zero-mul (2 ^ k))
    times (suc zero) k l = ap (ltb 0) (one-mul (2 ^ k)) ∙ lt-ltb 0 (2 ^ k) (pow_pos k)
    times (suc (suc b)) k l = absurd (omega arith)

pub mask-is : (j : ℕ) → 1 * 2 ^ (j % 8) % 256 ≡ 2 ^ (j % 8)
mask-is j = rw (one-mul (2 ^ (j % 8))) (mod-eq_of_lt (pow-lt {j = 8} (omega arith)))

abbrev pub Spread_below : (w j : ℕ) → List ℕ → Type 0
Spread_below w j bytes = (k : ℕ) → k < j → get_or bytes k 0 ≡ spread_at w k

-- the bytes of one bit more
pub spread-more : (w j : ℕ) (bytes : List ℕ) → length bytes ≡ 64 → j < 64 → Spread_below w j bytes
    → (length (set bytes j (spread_at w j)) ≡ 64) × Spread_below w (j + 1) (set bytes j (spread_at w j))
spread-more w j bytes e l s = (
  length-set bytes j (spread_at w j) ∙ e,
  λ k m. elim (dec_lt k j) [
    | yes b ↦ get_or-set_other bytes j k (spread_at w j) 0 (λ f. omega arith) ∙ s k b
    | no b ↦
        let same : j ≡ k = omega arith in
        subst (λ (z : ℕ). get_or (set bytes j (spread_at w j)) z 0 ≡ spread_at w z) same (get_or-set_same bytes j (spread_at w j) 0 (omega arith))
  ],
)

-- another h with the same rest: all other bits stay
pub bit-others : (j h g l : ℕ) → l < 2 ^ j → h / 2 ≡ g / 2 → (k : ℕ) → k ≢ j → bit_of (h * 2 ^ j + l) k ≡ bit_of (g * 2 ^ j + l) k
bit-others j h g l small e k apart =
    elim (dec_lt k j) [
      | yes s ↦
          let d : j ≡ suc (j - suc k) + k = omega arith in
          subst (λ (z : ℕ). bit_of (h * 2 ^ z + l) k ≡ bit_of (g * 2 ^ z + l) k) (sym d) (bit_below k (j - suc k) h l ∙ sym (bit_below k (j - suc k) g l))
      | no s ↦
          let d : k ≡ j + suc (k - suc j) = omega arith in
          subst (λ (z : ℕ). bit_of (h * 2 ^ j + l) z ≡ bit_of (g * 2 ^ j + l) z) (sym d)
          (bit-above j h l small (k - suc j) ∙ ap (λ (z : ℕ). bit_of z (k - suc j)) e ∙ sym (bit-above j g l small (k - suc j)))
    ]

-- a one shifted to a place of the word
pub one_shifted : (j : ℕ) → j < 64 → 1 * 2 ^ j % 2 ^ 64 ≡ 2 ^ j
one_shifted j l = rw (one-mul (2 ^ j)) (mod-eq_of_lt (pow-lt l))

-- ---- words whose low bits are set

pub bit-ones : (m j : ℕ) → bit_of (2 ^ m - 1) j ≡ bit (ltb j m)
bit-ones m j =
    elim (dec_lt j m) [
      | yes l ↦
          let k : ℕ = m - suc j in
          let d : m ≡ suc k + j = omega arith in
          subst (λ (z : ℕ). bit_of (2 ^ z - 1) j ≡ 1) (sym d)
          (ap (λ (z : ℕ). bit_of z j) (ones_split (suc k) j) ∙ bit_at j (2 ^ suc k - 1) (2 ^ j - 1) (ones_lt j)
          ∙ ap (λ (z : ℕ). (z - 1) % 2) (pow-suc 2 k) ∙ ap (λ (z : ℕ). z % 2) (dbl_pred (pow_pos k)) ∙ omega arith)
          ∙ ap bit (sym (lt-ltb j m l))
      | no l ↦
          let none : (2 ^ m - 1) / 2 ^ j ≡ 0 = div-eq_of_lt (lt_of_lt_of_le (ones_lt m) (pow_mono {i = m} {j = j} (omega arith))) in
          ap (λ (z : ℕ). z % 2) none ∙ ap bit (sym (le-ltb j m (omega arith)))
    ]

-- ---- one bit of a word changed

module _ (w j : ℕ) where
  small : w % 2 ^ j < 2 ^ j
  small = mod-lt w (pow_pos j)

  -- a bit that is 0 is set by a sum, one that is 1 cleared by a difference
  pub set-one : bit_of w j ≡ 0 → BitSet w j 1 (w + 2 ^ j)
  set-one e =
      let h : ℕ = w / 2 ^ j in
      let sum : w + 2 ^ j ≡ suc h * 2 ^ j + w % 2 ^ j = omega (arith, split w j, suc-mul h (2 ^ j)) in
      record {
        here = ap (λ (z : ℕ). bit_of z j) sum ∙ bit_at j (suc h) (w % 2 ^ j) small ∙ omega arith;
        others = λ k apart. ap (λ (z : ℕ). bit_of z k) sum ∙ bit-others j (suc h) h (w % 2 ^ j) small (omega arith) k apart ∙ ap (λ (z : ℕ). bit_of z k) (split w j);
      }

  pub set-zero : bit_of w j ≡ 1 → BitSet w j 0 (w - 2 ^ j)
  set-zero e =
      let h : ℕ = w / 2 ^ j in
      let less : w - 2 ^ j ≡ (h - 1) * 2 ^ j + w % 2 ^ j = omega (arith, split w j, suc-mul (h - 1) (2 ^ j), ap (λ (z : ℕ). z * 2 ^ j) {x = suc (h - 1)} {y = h} (omega arith)) in
      record {
        here = ap (λ (z : ℕ). bit_of z j) less ∙ bit_at j (h - 1) (w % 2 ^ j) small ∙ omega arith;
        others = λ k apart. ap (λ (z : ℕ). bit_of z k) less ∙ bit-others j (h - 1) h (w % 2 ^ j) small (omega arith) k apart ∙ ap (λ (z : ℕ). bit_of z k) (split w j);
      }

  -- the sum fits
  pub one_more : (k : ℕ) → j < k → w < 2 ^ k → bit_of w j ≡ 0 → w + 2 ^ j < 2 ^ k
  one_more k l s e =
      let h : ℕ = w / 2 ^ j in
      let i : ℕ = k - suc j in
      let d : suc i + j ≡ k = omega arith in
      let low : h < 2 ^ i * 2 = subst (λ (z : ℕ). h < z) (pow-suc 2 i) (shr_lt (suc i) j (subst (λ (z : ℕ). w < 2 ^ z) (sym d) s)) in
      let high : suc h * 2 ^ j + w % 2 ^ j < 2 ^ suc i * 2 ^ j = digits_lt {q = suc h} {m = 2 ^ suc i} (subst (λ (z : ℕ). suc h < z) (sym (pow-suc 2 i)) (omega arith)) small in
      subst (λ (z : ℕ). w + 2 ^ j < z) (sym (pow-add 2 (suc i) j) ∙ ap (λ (z : ℕ). 2 ^ z) d) (omega (arith, split w j, suc-mul h (2 ^ j)))

-- ---- one mark changed

pub marks-set : (ws : List ℕ) (s value next : ℕ) → s / 64 < length ws → BitSet (get_or ws (s / 64) 0) (s % 64) value next →
    marks_in (set ws (s / 64) next) ≡ set (marks_in ws) s value
unfolding marks_in
marks-set ws s value next l b =
    ap (λ (n : ℕ). tab (mark_in (set ws (s / 64) next)) (n * 64)) (length-set ws (s / 64) next)
    ∙ sym (set-tab (mark_in ws) (mark_in (set ws (s / 64) next)) (length ws * 64) s value (omega arith) here others)
  where
    here : mark_in (set ws (s / 64) next) s ≡ value
    here = ap (λ (w : ℕ). bit_of w (s % 64)) (get_or-set_same ws (s / 64) next 0 l) ∙ b.here

    others : (i : ℕ) → i ≢ s → mark_in (set ws (s / 64) next) i ≡ mark_in ws i
    others i apart =
        elim (dec_lt (i / 64) (s / 64)) [
          | yes a ↦ ap (λ (w : ℕ). bit_of w (i % 64)) (get_or-set_other ws (s / 64) (i / 64) next 0 (λ e. omega arith))
          | no a ↦ elim (dec_lt (s / 64) (i / 64)) [
            | yes c ↦ ap (λ (w : ℕ). bit_of w (i % 64)) (get_or-set_other ws (s / 64) (i / 64) next 0 (λ e. omega arith))
            | no c ↦
                let e : i / 64 ≡ s / 64 = omega arith in
                ap (λ (z : ℕ). bit_of (get_or (set ws (s / 64) next) z 0) (i % 64)) e ∙ ap (λ (w : ℕ). bit_of w (i % 64)) (get_or-set_same ws (s / 64) next 0 l)
                ∙ b.others (i % 64) (λ f. apart (omega arith)) ∙ ap (λ (z : ℕ). bit_of (get_or ws z 0) (i % 64)) (sym e)
          ]
        ]

-- ---- the words of marks of which the first n are set

abbrev first_words : (n many : ℕ) → List ℕ
first_words n many = tab (first_word n) many

pub marks-first : (n : ℕ) (ws : List ℕ) → marks_in (first_words n (length ws)) ≡ over (tab (λ _. 1) (min n (length (marks_in ws)))) (no_marks (marks_in ws))
unfolding marks_in
marks-first n ws =
    let many : ℕ = length ws in
    let m : ℕ = min n (length (marks_in ws)) in
    let e : length (marks_in ws) ≡ many * 64 = length-marks ws in
    let short : length {A = ℕ} (tab (λ _. 1) m) ≤ length (no_marks (marks_in ws)) = rw (length-tab {A = ℕ} (λ i. 1) m, length-tab {A = ℕ} (λ i. 0) (length (marks_in ws))) (omega arith) in
    ap (λ (k : ℕ). tab (mark_in (first_words n many)) (k * 64)) (length-tab (first_word n) many)
    ∙ tab-ext (mark_in (first_words n many)) (λ i. get_or (over (tab (λ _. 1) m) (no_marks (marks_in ws))) i 0) (many * 64) at
    ∙ sym (entries (over (tab (λ _. 1) m) (no_marks (marks_in ws))) 0 (many * 64) (length_over (tab (λ _. 1) m) (no_marks (marks_in ws)) short ∙ length-tab {A = ℕ} (λ i. 0) (length (marks_in ws)) ∙ e))
  where
    at : (s : ℕ) → s < length ws * 64 → mark_in (first_words n (length ws)) s ≡ get_or (over (tab (λ _. 1) (min n (length (marks_in ws)))) (no_marks (marks_in ws))) s 0
    at s l =
        let m : ℕ = min n (length (marks_in ws)) in
        let e : length (marks_in ws) ≡ length ws * 64 = length-marks ws in
        ap (λ (w : ℕ). bit_of w (s % 64)) (get_or-tab (first_word n) (length ws) (s / 64) 0 (omega arith)) ∙ bit-ones (min 64 (n - s / 64 * 64)) (s % 64)
        ∙ elim (dec_lt s n) [
          | yes h ↦ ap bit (lt-ltb (s % 64) (min 64 (n - s / 64 * 64)) (omega arith))
              ∙ sym (get_d_front (tab (λ _. 1) m) (no_marks (marks_in ws)) s 0 (rw (length-tab {A = ℕ} (λ i. 1) m) (omega arith)) ∙ get_or-tab {A = ℕ} (λ i. 1) m s 0 (omega arith))
          | no h ↦ ap bit (le-ltb (s % 64) (min 64 (n - s / 64 * 64)) (omega arith))
              ∙ sym (get_or-rest (tab (λ _. 1) m) (no_marks (marks_in ws)) s 0 (rw (length-tab {A = ℕ} (λ i. 1) m) (omega arith)) ∙ get_or-tab {A = ℕ} (λ i. 0) (length (marks_in ws)) s 0 (omega arith))
        ]

-- where there are so many places
pub first_marks : (n : ℕ) (ms : List ℕ) → n ≤ length ms → over (tab (λ _. 1) (min n (length ms))) (no_marks ms) ≡ over (tab (λ _. 1) n) (no_marks ms)
first_marks n ms l = let e : min n (length ms) ≡ n = omega arith in rw e

-- none of them
pub first-none : (ms : List ℕ) → over (tab (λ _. 1) (min 0 (length ms))) (no_marks ms) ≡ no_marks ms
unfolding over
first-none ms = let e : min 0 (length ms) ≡ 0 = omega arith in rw e

-- words of 0 have no mark
zero-marks : (ws vs : List ℕ) → length vs ≡ length ws → ((i : ℕ) → get_or vs i 0 ≡ 0) → marks_in vs ≡ no_marks (marks_in ws)
unfolding marks_in
zero-marks ws vs e z =
    tab-ext (mark_in vs) (λ i. 0) (length vs * 64) (λ s l. rw (z (s / 64)) (bit-zero (s % 64)))
    ∙ ap (λ (k : ℕ). tab {A = ℕ} (λ i. 0) k) (ap (λ (k : ℕ). k * 64) e ∙ sym (length-marks ws))

pub zero-filled : (ws vs : List ℕ) → vs ≡ replicate (length ws) 0 → marks_in vs ≡ no_marks (marks_in ws)
zero-filled ws vs e = rw e (zero-marks ws (replicate (length ws) 0) (length-replicate (length ws) 0) (get_or-zeros (length ws)))

-- ---- marks tell the words

-- their number
pub same-words : (ws vs : List ℕ) → length (marks_in ws) ≡ length (marks_in vs) → length ws ≡ length vs
same-words ws vs e = omega (arith, e, length-marks ws, length-marks vs)

pub bits-tell : (k w v : ℕ) → w < 2 ^ k → v < 2 ^ k → ((j : ℕ) → j < k → bit_of w j ≡ bit_of v j) → w ≡ v
bits-tell zero w v a b e = omega arith
bits-tell (suc k) w v a b e =
    let h : w / 2 ≡ v / 2 = bits-tell k (w / 2) (v / 2) (half w a) (half v b) (λ j l. sym (bit-half w j) ∙ e (suc j) (omega arith) ∙ bit-half v j) in
    omega (arith, h, e 0 (omega arith))
  where
    half : (x : ℕ) → x < 2 ^ suc k → x / 2 < 2 ^ k
    half x l = let d : x < 2 ^ k * 2 = rw (← pow-suc 2 k) l in omega arith

-- words of 64 bits with the same marks are the same
pub marks-tell : (ws vs : List ℕ) → ((i : ℕ) → get_or ws i 0 < 2 ^ 64) → ((i : ℕ) → get_or vs i 0 < 2 ^ 64) → marks_in ws ≡ marks_in vs → ws ≡ vs
marks-tell ws vs a b e =
    let many : length ws ≡ length vs = same-words ws vs (ap length e) in
    ext_get_or 0 ws vs many (λ i l. bits-tell 64 (get_or ws i 0) (get_or vs i 0) (a i) (b i)
    (λ j k. sym (mark-at ws i j k) ∙ ap (λ (ms : List ℕ). get_or ms (i * 64 + j) 0) e ∙ mark-at vs i j k))
