-- Scales of version 1: that one changes exactly if its pattern does, and the scales of bytes one after the other.
use mathlib.Core.Path.{◌≡◌, refl, sym, ap, ap₂, ◌∙◌}
use mathlib.Core.Bool.{Bool, true, false, not, ◌&&◌, ◌||◌}
use mathlib.Core.List.{List, ◌++◌, map, map-append}
use Prim.Native.Nat.{ℕ, suc, ◌+◌, ◌*◌, ◌/◌, ◌≤◌}
use native.Mathlib.Nat.{add-mul}
use native.Mathlib.Omega.{arith}
use lib.ListN.{length, take, drop, length-append, length-map}
use lib.Seq.{take-add, take_at, length-take-le, drop-append-add}
use lib.Dec.{eqb}
use borrow.Author.Tests.{eqb-true, eq-eqb}
use Rattle.lists.specs.Lists.{tab, joined}
use Rattle.lists.specs.Keep.{count}
use Rattle.lists.proofs.Keep.{either, each-mem, count-append, count-length}
use Rattle.lists.proofs.Front.{each_map}
use Rattle.lists.proofs.Laws.{length-tab, tab-ext, tab-append}
use Rattle.digits.specs.Digits.{number}
use Rattle.half.specs.Binary.{sign_of, unsigned}
use Rattle.half.specs.Half.{narrowed, Narrowed, Widened}
use Rattle.half.proofs.Narrow as Narrow
use Rattle.half.proofs.Widen as Widen
use Rattle.index.specs.File.{le_bytes}
use Rattle.index.specs.Read.{little_endian}
use Rattle.index.proofs.Blocks.{joined-append, length-joined}
use Rattle.index.proofs.Read.{number_cut}
use Rattle.conversion.specs.Scales.{rounded, nan_pattern, zero_pattern, same_value, changes, scales_in, halves_of, changes_in}
use Rattle.conversion.specs.Converted.{Whole}

-- ---- one scale

-- rounding keeps the sign
sign-kept : (x : ℕ) → sign_of 23 8 (rounded x) ≡ sign_of 23 8 x
sign-kept x =
    let n : Narrowed x (narrowed x) = Narrow.meets x (narrowed x) refl in
    let w : Widened (narrowed x) (rounded x) = Widen.meets (narrowed x) (rounded x) refl in
    w.sign ∙ n.sign

both-zero : (x : ℕ) → zero_pattern (rounded x) ≡ true → zero_pattern x ≡ true → rounded x ≡ x
both-zero x r z =
    let a : unsigned 23 8 (rounded x) ≡ 0 = eqb-true (unsigned 23 8 (rounded x)) 0 r in
    let b : unsigned 23 8 x ≡ 0 = eqb-true (unsigned 23 8 x) 0 z in
    omega (arith, a, b, sign-kept x)

-- so a value changes only with the pattern
same-pattern : (x : ℕ) → same_value (rounded x) x ≡ eqb (rounded x) x
same-pattern x = go (eqb (rounded x) x) (zero_pattern (rounded x)) (zero_pattern x) refl refl refl
  where
    go : (b c d : Bool) → eqb (rounded x) x ≡ b → zero_pattern (rounded x) ≡ c → zero_pattern x ≡ d → (b || (c && d)) ≡ b
    go true c d e f g = refl
    go false true true e f g = sym (eq-eqb (rounded x) x (both-zero x f g)) ∙ e
    go false true false e f g = refl
    go false false d e f g = refl

pub changes-pattern : (x : ℕ) → changes x ≡ not (eqb (rounded x) x)
unfolding changes
changes-pattern x = ap not (either (λ (b : Bool). b ≡ eqb (rounded x) x) (nan_pattern x) refl (same-pattern x))

-- ---- scales of some bytes

abbrev pub scale_at : (bytes : List ℕ) → ℕ → ℕ
scale_at bytes i = little_endian 4 (drop (i * 4) bytes)

scales-append : (c d : List ℕ) → Whole c → scales_in (c ++ d) ≡ scales_in c ++ scales_in d
unfolding scales_in little_endian
scales-append c d (n, e) =
    let long : length (c ++ d) / 4 ≡ n + length d / 4 = omega (arith, length-append c d, e) in
    let own : length c / 4 ≡ n = omega (arith, e) in
    let here : (i : ℕ) → suc i * 4 ≤ length c → scale_at (c ++ d) i ≡ scale_at c i =
    λ i l. sym (number_cut 4 (i * 4) (length c) (c ++ d) (omega (arith, l))) ∙ ap (λ (bs : List ℕ). scale_at bs i) (take_at c d (length c) refl) in
    let after : (j : ℕ) → scale_at (c ++ d) (n + j) ≡ scale_at d j =
    λ j. ap (λ (k : ℕ). little_endian 4 (drop k (c ++ d))) {x = (n + j) * 4} {y = length c + j * 4} (omega (arith, e, add-mul n j 4)) ∙ ap (λ (bs : List ℕ). number 256 (take 4 bs)) (drop-append-add c d (j * 4)) in
    ap (tab (scale_at (c ++ d))) long ∙ tab-append (scale_at (c ++ d)) n (length d / 4)
    ∙ ap₂ (λ (xs ys : List ℕ). xs ++ ys)
    (tab-ext (scale_at (c ++ d)) (scale_at c) n (λ i l. here i (omega (arith, l, e))) ∙ ap (tab (scale_at c)) (sym own))
    (tab-ext (λ j. scale_at (c ++ d) (n + j)) (scale_at d) (length d / 4) (λ j l. after j))

pub halves-append : (c d : List ℕ) → Whole c → halves_of (c ++ d) ≡ halves_of c ++ halves_of d
halves-append c d w =
    let half : ℕ → List ℕ = λ x. le_bytes 2 (narrowed x) in
    ap (λ (xs : List ℕ). joined (map half xs)) (scales-append c d w) ∙ ap joined (map-append half (scales_in c) (scales_in d)) ∙ joined-append (map half (scales_in c)) (map half (scales_in d))

pub changes-append : (c d : List ℕ) → Whole c → changes_in (c ++ d) ≡ changes_in c + changes_in d
changes-append c d w = ap (count changes) (scales-append c d w) ∙ count-append changes (scales_in c) (scales_in d)

-- the first n scales of some bytes, by their places
pub scales-first : (n : ℕ) (bytes : List ℕ) → n * 4 ≤ length bytes → scales_in (take (n * 4) bytes) ≡ tab (scale_at bytes) n
unfolding scales_in
scales-first n bytes l =
    let many : length (take (n * 4) bytes) / 4 ≡ n = omega (arith, length-take-le (n * 4) bytes l) in
    ap (tab (scale_at (take (n * 4) bytes))) many
    ∙ tab-ext (scale_at (take (n * 4) bytes)) (scale_at bytes) n (λ i k. number_cut 4 (i * 4) (n * 4) bytes (omega (arith, k)))

pub changes-few : (bytes : List ℕ) → changes_in bytes ≤ length bytes / 4
unfolding scales_in
changes-few bytes = omega (arith, count-length changes (scales_in bytes), length-tab (scale_at bytes) (length bytes / 4))

-- ---- the first n scales of some bytes, and then m more

module _ (n m : ℕ) (bytes : List ℕ) (enough : n * 4 ≤ length bytes) where
  abbrev first : List ℕ
  first = take (n * 4) bytes

  abbrev more : List ℕ
  more = take (m * 4) (drop (n * 4) bytes)

  first-whole : Whole (take (n * 4) bytes)
  first-whole = (n, length-take-le (n * 4) bytes enough)

  first-more : take ((n + m) * 4) bytes ≡ take (n * 4) bytes ++ take (m * 4) (drop (n * 4) bytes)
  first-more = ap (λ (k : ℕ). take k bytes) (add-mul n m 4) ∙ take-add (n * 4) (m * 4) bytes

  pub halves-more : halves_of (take ((n + m) * 4) bytes) ≡ halves_of (take (n * 4) bytes) ++ halves_of (take (m * 4) (drop (n * 4) bytes))
  halves-more = ap halves_of first-more ∙ halves-append first more first-whole

  pub changes-more : changes_in (take ((n + m) * 4) bytes) ≡ changes_in (take (n * 4) bytes) + changes_in (take (m * 4) (drop (n * 4) bytes))
  changes-more = ap changes_in first-more ∙ changes-append first more first-whole

-- two bytes for each of the first n scales
pub halves-long : (n : ℕ) (bytes : List ℕ) → n * 4 ≤ length bytes → length (halves_of (take (n * 4) bytes)) ≡ n * 2
halves-long n bytes l =
    let half : ℕ → List ℕ = λ x. le_bytes 2 (narrowed x) in
    let xs : List ℕ = scales_in (take (n * 4) bytes) in
    length-joined 2 (map half xs) (each_map (λ b. length b ≡ 2) half xs (each-mem (λ x. length (half x) ≡ 2) xs (λ x m. refl)))
    ∙ ap (λ (k : ℕ). k * 2) (length-map xs half ∙ ap length (scales-first n bytes l) ∙ length-tab (scale_at bytes) n)
