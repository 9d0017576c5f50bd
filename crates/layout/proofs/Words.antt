-- The counts of the slots of one word.
use mathlib.Core.Path.{◌≡◌, refl, sym, ap, ap₂, ◌∙◌}
use mathlib.Core.Bool.{Bool, false, ◌&&◌, and-false}
use mathlib.Core.List.{List}
use Prim.Native.Nat.{ℕ, ◌/◌, ◌%◌, ◌+◌, ◌-◌, ◌*◌, ◌^◌, ◌≤◌, ◌<◌, min}
use native.Mathlib.Nat.{mod-lt}
use native.Mathlib.Omega.{arith}
use native.Mathlib.Decide.{dec_lt}
use lib.ListN.{length, get_or, take, drop, length-drop, get_or-eq_default, drop_of_length-le}
use lib.Seq.{take_all, get_or-take, get_or-drop}
use lib.Dec.{ltb}
use lib.Pow.{pow_pos}
use lib.Count.{ones}
use Rattle.std.proofs.lemmas.List.{length-take}
use Rattle.lists.specs.Lists.{below}
use Rattle.lists.specs.Keep.{count}
use Rattle.lists.proofs.Front.{count-tab-append, count_below, count_past}
use Rattle.positions.proofs.Slots.{count-tab}
use Rattle.digits.specs.Digits.{bit_of}
use Rattle.marks.specs.Live.{marks_in, live_at}
use Rattle.marks.specs.Word.{Lives, Spread, live_in}
use Rattle.marks.proofs.Words.{bit-rest, bit-past, mark-at, bit-low, one-live}
use Rattle.fit.proofs.Ones.{is_one, ones-bits}
use Rattle.layout.specs.declared.Counts.{Counts}
use Rattle.layout.specs.Counts.{of_word, is_dated, entry_at, dated_at, entry_beside, dated_beside, counts_in, counts_of, together, Summable}
use Rattle.layout.proofs.Counting.{count-few}

-- the ones of a word are its live slots
ones-live : (w : ℕ) → w < 2 ^ 64 → ones w ≡ count (live_in w) (below 64)
ones-live w l = ones-bits w 64 l ∙ count-tab is_one (live_in w) (bit_of w) (λ j. j) 64 (λ j. one-live (bit_of w j) (bit-low w j))

-- a word's slots by the bytes of its bits: `has` says of a slot what is asked besides, and of none past the n-th
module _ (has : ℕ → Bool) (w : ℕ) (bytes : List ℕ) (n : ℕ) (past : (j : ℕ) → n ≤ j → has j ≡ false) where
  beside-word : n ≤ 64 → Spread w bytes → count (λ j. ltb 0 (get_or bytes j 0) && has j) (below n) ≡ count (λ j. live_in w j && has j) (below 64)
  beside-word few s =
      count_below (λ j. ltb 0 (get_or bytes j 0) && has j) (λ j. live_in w j && has j) n (λ j l. ap (λ (b : Bool). b && has j) (s.each j (omega arith)))
      ∙ sym (count_past (λ j. live_in w j && has j) n (λ j l. ap (λ (b : Bool). live_in w j && b) (past j l) ∙ and-false (live_in w j)) 64 few)

-- the counts of a word's slots
pub word-counts : (keyed : List Bool) (years : List ℕ) (w : ℕ) (bytes : List ℕ) (live entries dated : ℕ) → w < 2 ^ 64 → length keyed ≤ 64 → length years ≤ 64 → Spread w bytes
    → live ≡ ones w → entries ≡ count (entry_beside keyed bytes) (below (length keyed)) → dated ≡ count (dated_beside years bytes) (below (length years))
    → record { live = live; keyed = entries; dated = dated } ≡ counts_in keyed years w
unfolding counts_in
word-counts keyed years w bytes live entries dated l k y s e f g =
    let with_keys = f ∙ beside-word (λ j. get_or keyed j false) w bytes (length keyed) (λ j. get_or-eq_default keyed false) k s in
    let with_years = g ∙ beside-word (λ j. is_dated (get_or years j 1)) w bytes (length years) (λ j m. ap is_dated (get_or-eq_default years 1 m)) y s in
    λ i. record { live = (e ∙ ones-live w l) i; keyed = with_keys i; dated = with_years i }

-- one word more
word-more : (p q : ℕ → Bool) (i : ℕ) → ((j : ℕ) → j < 64 → p (i * 64 + j) ≡ q j) → count p (below ((i + 1) * 64)) ≡ count p (below (i * 64)) + count q (below 64)
word-more p q i e =
    ap (λ (n : ℕ). count p (below n)) {x = (i + 1) * 64} {y = i * 64 + 64} (omega arith) ∙ count-tab-append p (λ j. j) (i * 64) 64
    ∙ ap (λ (n : ℕ). count p (below (i * 64)) + n)
    (count-tab p (λ j. p (i * 64 + j)) (λ j. i * 64 + j) (λ j. j) 64 (λ j. refl) ∙ count_below (λ j. p (i * 64 + j)) q 64 e)

-- the first n slots, of which the last are in a word that has no other bits set
part-word : (p q : ℕ → Bool) (n : ℕ) → ((j : ℕ) → j < n % 64 → p (n / 64 * 64 + j) ≡ q j) → ((j : ℕ) → n % 64 ≤ j → q j ≡ false)
    → count p (below n) ≡ count p (below (n / 64 * 64)) + count q (below 64)
part-word p q n e past =
    let first : ℕ = n / 64 * 64 in
    ap (λ (m : ℕ). count p (below m)) {x = n} {y = first + n % 64} (omega arith) ∙ count-tab-append p (λ j. j) first (n % 64)
    ∙ ap (λ (m : ℕ). count p (below first) + m)
    (count-tab p (λ j. p (first + j)) (λ j. first + j) (λ j. j) (n % 64) (λ j. refl) ∙ count_below (λ j. p (first + j)) q (n % 64) e
    ∙ sym (count_past q (n % 64) past 64 (omega arith)))

-- the first k bits of a word
module _ (w k : ℕ) where
  low-live : (j : ℕ) → j < k → live_in (w % 2 ^ k) j ≡ live_in w j
  low-live j l = ap (ltb 0) (bit-rest w k j l)

  no-more : (j : ℕ) → k ≤ j → live_in (w % 2 ^ k) j ≡ false
  no-more j l = ap (ltb 0) (bit-past (w % 2 ^ k) k j (mod-lt w (pow_pos k)) l)

pub few-of : {A : Type 0} (xs : List A) (i : ℕ) → length (of_word xs i) ≤ 64
few-of xs i = omega (arith, length-take 64 (drop (i * 64) xs))

-- by the part that is cut out
pub of-cut : {A : Type 0} (xs : List A) (i from to : ℕ) → from ≡ min (length xs) (i * 64) → to ≡ from + min (length xs - from) 64
    → take (to - from) (drop from xs) ≡ of_word xs i
of-cut xs i from to f t =
    elim (dec_lt (i * 64) (length xs)) [
      | yes l ↦
          let e : from ≡ i * 64 = omega arith in
          elim (dec_lt (from + 64) (length xs)) [
            | yes k ↦ ap (λ (m : ℕ). take m (drop from xs)) {x = to - from} {y = 64} (omega arith) ∙ ap (λ (m : ℕ). take 64 (drop m xs)) e
            | no k ↦
                let short : length (drop from xs) ≤ to - from = rw (length-drop from xs) (omega arith) in
                take_all (to - from) (drop from xs) short ∙ sym (take_all 64 (drop from xs) (rw (length-drop from xs) (omega arith)))
                ∙ ap (λ (m : ℕ). take 64 (drop m xs)) e
          ]
      | no l ↦
          let none : drop from xs ≡ drop (i * 64) xs = drop_of_length-le xs (omega arith) ∙ sym (drop_of_length-le xs (omega arith)) in
          take_all (to - from) (drop from xs) (rw (length-drop from xs) (omega arith)) ∙ none
          ∙ sym (take_all 64 (drop (i * 64) xs) (rw (length-drop (i * 64) xs) (omega arith)))
    ]

-- a slot of a word, where there is no other past the end than d
slot-of : {A : Type 0} (xs : List A) (i : ℕ) (d : A) (j : ℕ) → j < 64 → get_or xs (i * 64 + j) d ≡ get_or (of_word xs i) j d
slot-of xs i d j l = sym (get_or-take 64 (drop (i * 64) xs) j d l ∙ get_or-drop (i * 64) xs j d)

-- `at` says of a slot what is asked besides, and `within` of a slot of the word
module _ (ws : List ℕ) (i : ℕ) where
  abbrev word : ℕ
  word = get_or ws i 0

  live-is : (j : ℕ) → j < 64 → live_at (marks_in ws) (i * 64 + j) ≡ live_in word j
  live-is j l = ap (ltb 0) (mark-at ws i j l)

  more : (at within : ℕ → Bool) → ((j : ℕ) → j < 64 → at (i * 64 + j) ≡ within j) → count (λ s. live_at (marks_in ws) s && at s) (below ((i + 1) * 64))
      ≡ count (λ s. live_at (marks_in ws) s && at s) (below (i * 64)) + count (λ j. live_in word j && within j) (below 64)
  more at within e =
      word-more (λ s. live_at (marks_in ws) s && at s) (λ j. live_in word j && within j) i
      (λ j l. ap (λ (b : Bool). b && at (i * 64 + j)) (live-is j l) ∙ ap (λ (b : Bool). live_in word j && b) (e j l))

  pub counts-more : (keyed : List Bool) (years : List ℕ) (x y : Counts) → x ≡ counts_of keyed years (marks_in ws) (i * 64) → y ≡ counts_in (of_word keyed i) (of_word years i) word
      → together x y ≡ counts_of keyed years (marks_in ws) ((i + 1) * 64)
  unfolding counts_of counts_in
  counts-more keyed years x y e f =
      ap₂ together e f
      ∙ λ t. record {
        live = sym (word-more (live_at (marks_in ws)) (live_in word) i live-is) t;
        keyed = sym (more (λ s. get_or keyed s false) (λ j. get_or (of_word keyed i) j false) (slot-of keyed i false)) t;
        dated = sym (more (λ s. is_dated (get_or years s 1)) (λ j. is_dated (get_or (of_word years i) j 1)) (λ j l. ap is_dated (slot-of years i 1 j l))) t;
      }

-- the slots of the last word
module _ (ms : List ℕ) (n w : ℕ) (lives : Lives ms (n / 64 * 64) w) where
  abbrev last : ℕ
  last = w % 2 ^ (n % 64)

  last-live : (j : ℕ) → j < n % 64 → live_at ms (n / 64 * 64 + j) ≡ live_in last j
  last-live j l = sym (low-live w (n % 64) j l ∙ lives.each j (omega arith))

  last-part : (at within : ℕ → Bool) → ((j : ℕ) → j < 64 → at (n / 64 * 64 + j) ≡ within j) → count (λ s. live_at ms s && at s) (below n)
      ≡ count (λ s. live_at ms s && at s) (below (n / 64 * 64)) + count (λ j. live_in last j && within j) (below 64)
  last-part at within e =
      part-word (λ s. live_at ms s && at s) (λ j. live_in last j && within j) n
      (λ j l. ap (λ (b : Bool). b && at (n / 64 * 64 + j)) (last-live j l) ∙ ap (λ (b : Bool). live_in last j && b) (e j (omega arith)))
      (λ j l. ap (λ (b : Bool). b && within j) (no-more w (n % 64) j l))

  pub counts-last : (keyed : List Bool) (years : List ℕ) (x y : Counts) → x ≡ counts_of keyed years ms (n / 64 * 64)
      → y ≡ counts_in (of_word keyed (n / 64)) (of_word years (n / 64)) last → together x y ≡ counts_of keyed years ms n
  unfolding counts_of counts_in
  counts-last keyed years x y e f =
      let i : ℕ = n / 64 in
      ap₂ together e f
      ∙ λ t. record {
        live = sym (part-word (live_at ms) (live_in last) n last-live (no-more w (n % 64))) t;
        keyed = sym (last-part (λ s. get_or keyed s false) (λ j. get_or (of_word keyed i) j false) (slot-of keyed i false)) t;
        dated = sym (last-part (λ s. is_dated (get_or years s 1)) (λ j. is_dated (get_or (of_word years i) j 1)) (λ j l. ap is_dated (slot-of years i 1 j l))) t;
      }

-- counts that are those of n slots together can be added
pub summable : (keyed : List Bool) (years ms : List ℕ) (n : ℕ) (x y : Counts) → together x y ≡ counts_of keyed years ms n → n < 2 ^ 64 → Summable x y
unfolding counts_of
summable keyed years ms n x y e l =
    record {
      live = omega (arith, ap (λ (z : Counts). z.live) e, count-few (live_at ms) n, l);
      keyed = omega (arith, ap (λ (z : Counts). z.keyed) e, count-few (entry_at keyed ms) n, l);
      dated = omega (arith, ap (λ (z : Counts). z.dated) e, count-few (dated_at years ms) n, l);
    }
