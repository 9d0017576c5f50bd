-- The look at the words of the marks, and what it says of the marks one a slot.
use mathlib.Core.Path.{◌≡◌, refl, sym, ap, subst, ◌∙◌}
use mathlib.Core.Bool.{Bool, true, false, not, ◌&&◌, ◌||◌, true≢false}
use mathlib.Core.List.{List, ◌∷◌, ◌++◌}
use Prim.Native.Nat.{ℕ, zero, suc, ◌+◌, ◌-◌, ◌*◌, ◌/◌, ◌%◌, ◌^◌, ◌≤◌, ◌<◌, min}
use native.Mathlib.Nat.{add-zero, add-suc, zero-div}
use native.Mathlib.Omega.{arith}
use native.Mathlib.Decide.{dec_lt}
use lib.ListN.{length, get_or, take, drop, length-drop, get_or-append, get_or-eq_default}
use lib.Seq.{length-take-le, take_all, get_or-take, get_or-drop, drop-drop, drop-append_seam}
use lib.Dec.{eqb}
use lib.Pow.{pow_pos, shr-shr, shr_le}
use borrow.Author.Tests.{lt-ltb}
use Rattle.lists.specs.Keep.{bit, count}
use Rattle.lists.proofs.Laws.{tab-ext}
use Rattle.positions.specs.Decides.{Decides}
use Rattle.positions.proofs.Decides.{holds, fails}
use Rattle.positions.proofs.Slots.{count-last}
use Rattle.digits.specs.Digits.{bit_of}
use Rattle.marks.specs.Live.{marks_in}
use Rattle.marks.proofs.Words.{length-marks, get_or-marks, mark-at, bit-zero, bit-past, bit-low, bit-ones, bits-tell}
use Rattle.fit.specs.Fits.{KeyedLive, NoneFrom, live_marks}
use Rattle.fit.specs.Word.{AllZero, WordLive}

-- b, or else c
module _ (b c : Bool) where
  pub implied : (not b || c) ≡ true → b ≡ true → c ≡ true
  implied h e = go b h e
    where
      go : (x : Bool) → (not x || c) ≡ true → x ≡ true → c ≡ true
      go true f g = f
      go false f g = absurd (true≢false (sym g))

  pub implies : (b ≡ true → c ≡ true) → (not b || c) ≡ true
  implies h = go b h
    where
      go : (x : Bool) → (x ≡ true → c ≡ true) → (not x || c) ≡ true
      go true f = f refl
      go false f = refl

-- lent marks are 0 or 1
pub lent-low : (ws : List ℕ) (i : ℕ) → get_or (marks_in ws) i 0 ≤ 1
lent-low ws i = omega (arith, get_or-marks ws i, bit-low (get_or ws (i / 64) 0) (i % 64))

-- ---- words of 0

module _ (ws : List ℕ) (n : ℕ) where
  -- past the last word
  pub clear-past : length ws ≤ n / 64 → NoneFrom n (marks_in ws)
  clear-past l i m = get_or-eq_default (marks_in ws) 0 {n = i} (omega (arith, length-marks ws))

  -- the word of slot n shifted to that slot, and all later words
  abbrev pub later : List ℕ
  later = let m : ℕ = n / 64 + 1 in take (length ws - m) (drop m ws)

  late : (i : ℕ) → get_or later i 0 ≡ get_or ws (n / 64 + 1 + i) 0
  late i =
      let m : ℕ = n / 64 + 1 in
      ap (λ (xs : List ℕ). get_or xs i 0) (take_all (length ws - m) (drop m ws) (rw (length-drop m ws) (omega arith))) ∙ get_or-drop m ws i 0

  pub clear-from : get_or ws (n / 64) 0 / 2 ^ (n % 64) ≡ 0 → AllZero later → NoneFrom n (marks_in ws)
  clear-from e z i l =
      get_or-marks ws i
      ∙ elim (dec_lt (n / 64) (i / 64)) [
        | yes k ↦ ap (λ (w : ℕ). bit_of w (i % 64)) (here z (i / 64) (omega arith)) ∙ bit-zero (i % 64)
        | no k ↦
            let same : i / 64 ≡ n / 64 = omega arith in
            let d : i % 64 ≡ n % 64 + (i % 64 - n % 64) = omega arith in
            ap (λ (z : ℕ). get_or ws z 0 / 2 ^ (i % 64) % 2) same
            ∙ ap (λ (z : ℕ). z % 2)
            (ap (λ (z : ℕ). get_or ws (n / 64) 0 / 2 ^ z) d ∙ sym (shr-shr (get_or ws (n / 64) 0) (n % 64) (i % 64 - n % 64))
            ∙ ap (λ (z : ℕ). z / 2 ^ (i % 64 - n % 64)) e ∙ zero-div (2 ^ (i % 64 - n % 64)))
      ]
    where
      here : AllZero later → (j : ℕ) → n / 64 + 1 ≤ j → get_or ws j 0 ≡ 0
      here z j l =
          let k : ℕ = j - (n / 64 + 1) in
          ap (λ (i : ℕ). get_or ws i 0) {x = j} {y = n / 64 + 1 + k} (omega arith) ∙ sym (late k) ∙ z k

  module _ (word : (i : ℕ) → get_or ws i 0 < 2 ^ 64) (c : NoneFrom n (marks_in ws)) where
    -- a word whose bits are all clear
    empty : (w : ℕ) → w < 2 ^ 64 → ((j : ℕ) → j < 64 → bit_of w j ≡ 0) → w ≡ 0
    empty w l e = bits-tell 64 w 0 l (pow_pos 64) (λ j k. e j k ∙ sym (bit-zero j))

    pub clear_later : AllZero later
    clear_later i =
        let m : ℕ = n / 64 + 1 + i in
        late i ∙ empty (get_or ws m 0) (word m) (λ j k. sym (mark-at ws m j k) ∙ c (m * 64 + j) (omega arith))

    pub clear-word : get_or ws (n / 64) 0 / 2 ^ (n % 64) ≡ 0
    clear-word =
        let w : ℕ = get_or ws (n / 64) 0 in
        empty (w / 2 ^ (n % 64)) (omega (arith, word (n / 64), shr_le w (n % 64)))
        (λ j k. ap (λ (z : ℕ). z % 2) (shr-shr w (n % 64) j) ∙ elim (dec_lt (n % 64 + j) 64) [
          | yes l ↦ sym (mark-at ws (n / 64) (n % 64 + j) l) ∙ c (n / 64 * 64 + (n % 64 + j)) (omega arith)
          | no l ↦ bit-past w 64 (n % 64 + j) (word (n / 64)) (omega arith)
        ])

-- ---- the slots of a word

pub full-live : (keyed : List Bool) → length keyed ≤ 64 → WordLive keyed (2 ^ 64 - 1)
full-live keyed h j l k = bit-ones 64 j ∙ ap bit (lt-ltb j 64 (omega arith))

-- The walk over words: turn i takes word w, and of the slots left the part that the word has. `from` slots were before.
module _ (keyed : List Bool) (ws : List ℕ) (i : ℕ) where
  abbrev from : ℕ
  from = min (i * 64) (length keyed)

  -- at its end no slot is left
  pub all-walked : length (drop from keyed) ≡ 0 → from ≡ length keyed
  all-walked e = omega (arith, e, length-drop from keyed)

  pub words-walked : length keyed ≤ length (marks_in ws) → length (drop i ws) ≡ 0 → from ≡ length keyed
  words-walked l e = omega (arith, e, l, length-drop i ws, length-marks ws)

  module _ (part rest : List Bool) (w : ℕ) (later : List ℕ) (e : drop from keyed ≡ part ++ rest) (f : drop i ws ≡ w ∷ later)
      (size : length part ≡ min 64 (length (drop from keyed))) (some : 0 < length (drop from keyed)) where
    whole : from ≡ i * 64
    whole = omega (arith, some, length-drop from keyed)

    next : from + length part ≡ min ((i + 1) * 64) (length keyed)
    next = omega (arith, size, some, length-drop from keyed)

    pub rest-is : rest ≡ drop (min ((i + 1) * 64) (length keyed)) keyed
    rest-is = sym (drop-append_seam part rest) ∙ ap (drop (length part)) (sym e) ∙ drop-drop (length part) from keyed ∙ ap (λ (k : ℕ). drop k keyed) next

    pub later-is : later ≡ drop (i + 1) ws
    later-is = ap (drop 1) (sym f) ∙ drop-drop 1 i ws

    on : (j : ℕ) → j < length part → get_or part j false ≡ get_or keyed (from + j) false
    on j k = sym (get_or-append part rest false j k) ∙ ap (λ (xs : List Bool). get_or xs j false) (sym e) ∙ get_or-drop from keyed j false

    word-is : w ≡ get_or ws i 0
    word-is = ap (λ (xs : List ℕ). get_or xs 0 0) (sym f) ∙ get_or-drop i ws 0 0 ∙ ap (λ (k : ℕ). get_or ws k 0) (add-zero i)

    bit-of : (j : ℕ) → j < length part → get_or (marks_in ws) (from + j) 0 ≡ bit_of w j
    bit-of j k =
        ap (λ (z : ℕ). get_or (marks_in ws) (z + j) 0) whole ∙ mark-at ws i j (omega (arith, k, size)) ∙ ap (λ (z : ℕ). bit_of z j) (sym word-is)

    to_word : KeyedLive keyed (marks_in ws) (min ((i + 1) * 64) (length keyed)) → WordLive part w
    to_word g j k t = sym (bit-of j k) ∙ g (from + j) (omega (arith, k, next)) (sym (on j k) ∙ t)

    of_word : WordLive part w → (j : ℕ) → j < length part → get_or keyed (from + j) false ≡ true → get_or (marks_in ws) (from + j) 0 ≡ 1
    of_word g j k t = bit-of j k ∙ g j k (on j k ∙ t)

    pub word_more : (b c : Bool) → Decides b (KeyedLive keyed (marks_in ws) from) → Decides c (WordLive part w) →
        Decides (b && c) (KeyedLive keyed (marks_in ws) (min ((i + 1) * 64) (length keyed)))
    word_more true true d g =
        holds (λ s k t. elim (dec_lt s from) [
          | yes q ↦ d.yes refl s q t
          | no q ↦
              let at : from + (s - from) ≡ s = omega arith in
              subst (λ (z : ℕ). get_or (marks_in ws) z 0 ≡ 1) at
              (of_word (g.yes refl) (s - from) (omega (arith, k, next)) (ap (λ (z : ℕ). get_or keyed z false) at ∙ t))
        ])
    word_more true false d g = fails (λ h. g.no refl (to_word h))
    word_more false c d g = fails (λ h. d.no refl (λ s k. h s (omega arith)))

-- the first n slots as a part of the array
pub keyed-front : (keyed : List Bool) (ms : List ℕ) (n : ℕ) {b : Bool} → n ≤ length keyed → Decides b (KeyedLive (take n keyed) ms (length (take n keyed))) →
    Decides b (KeyedLive keyed ms n)
keyed-front keyed ms n h d =
    let e : length (take n keyed) ≡ n = length-take-le n keyed h in
    record {
      yes = λ t i l k. d.yes t i (rw e l) (get_or-take n keyed i false l ∙ k);
      no = λ t f. d.no t (λ i l k. let m : i < n = rw e at l in f i m (sym (get_or-take n keyed i false m) ∙ k));
    }

-- ---- the count

-- of the first words, all that the count looks at
pub live-front : (ws : List ℕ) (k : ℕ) → k ≤ length ws → live_marks (marks_in (take k ws)) (length (take k ws) * 64) ≡ live_marks (marks_in ws) (k * 64)
live-front ws k h =
    ap (λ (n : ℕ). live_marks (marks_in (take k ws)) (n * 64)) (length-take-le k ws h) ∙ ap (count (λ m. eqb m 1))
    (tab-ext (λ i. get_or (marks_in (take k ws)) i 0) (λ i. get_or (marks_in ws) i 0) (k * 64)
    (λ i l. get_or-marks (take k ws) i ∙ ap (λ (w : ℕ). bit_of w (i % 64)) (get_or-take k ws (i / 64) 0 (omega arith)) ∙ sym (get_or-marks ws i)))

-- marks that are not set add nothing
pub live-clear : (ms : List ℕ) (n m : ℕ) → NoneFrom n ms → n ≤ m → live_marks ms m ≡ live_marks ms n
live-clear ms n m c l = ap (live_marks ms) {x = m} {y = n + (m - n)} (omega arith) ∙ past (m - n)
  where
    past : (k : ℕ) → live_marks ms (n + k) ≡ live_marks ms n
    past zero = ap (live_marks ms) (add-zero n)
    past (suc k) =
        ap (live_marks ms) (add-suc n k) ∙ count-last (λ m. eqb m 1) (λ i. get_or ms i 0) (n + k)
        ∙ omega (arith, past k, ap (λ (m : ℕ). bit (eqb m 1)) (c (n + k) (omega arith)))
