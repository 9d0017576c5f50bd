-- What is printed is read back: a number in the fewest hexadecimal digits that hold it is a field that reads as this number,
-- where that is at most what may be read.
use mathlib.Core.Path.{◌≡◌, refl, sym, ap, ◌∙◌}
use mathlib.Core.Bool.{Bool, true, false, cond}
use mathlib.Core.List.{List, [], ◌∷◌, ◌++◌}
use Rattle.std.specs.Prelude.{Some}
use Prim.Native.Nat.{ℕ, zero, suc, ◌+◌, ◌-◌, ◌*◌, ◌/◌, ◌%◌, ◌^◌, ◌≤◌, ◌<◌}
use native.Mathlib.Nat.{div-add-mod', mod-lt, div-lt_iff_lt-mul, le-div_iff_mul-le, pow-suc, pow-le-pow_right, le_trans, lt_of_le_of_lt}
use native.Mathlib.Numerals.{sub-one}
use native.Mathlib.Omega.{arith}
use borrow.Author.Tests.{le-leb, lt-leb, lt-ltb, ltb-true, ltb-false, ne_eqb}
use lib.Dec.{ltb, lit<}
use lib.ListN.{length, get_or, length-append, get_or-append}
use Rattle.io.specs.Digits.{hex_digit_ascii, last_digits, IsDigitCount}
use Rattle.values.specs.Reading.{digit_of, are_digits, value_after, value_of, leads_with_zero, is_number, number_at_most}
use Rattle.values.proofs.Digits.{first-digit}

-- ---- one digit

glyph-read : (d : ℕ) → d < 16 → digit_of (hex_digit_ascii d) ≡ d
unfolding digit_of
glyph-read d h = go (ltb d 10) refl
  where
    go : (t : Bool) → ltb d 10 ≡ t → digit_of (cond t (48 + d) (87 + d)) ≡ d
    go true e =
        let low : d < 10 = ltb-true d 10 e in
        simp (le-leb 48 (48 + d) (omega arith), le-leb (48 + d) 57 (omega arith)) (omega arith)
    go false e =
        let high : 10 ≤ d = ltb-false d 10 e in
        simp (le-leb 48 (87 + d) (omega arith), lt-leb (87 + d) 57 (omega arith), le-leb 97 (87 + d) (omega arith), le-leb (87 + d) 102 (omega arith)) (omega arith)

-- ---- a run of digits, with one more at its end

digits-length : (k n : ℕ) → length (last_digits 16 k n) ≡ k
digits-length zero n = refl
digits-length (suc k) n =
    let e : length (last_digits 16 k (n / 16)) ≡ k = digits-length k (n / 16) in
    omega (arith, length-append (last_digits 16 k (n / 16)) (hex_digit_ascii (n % 16) ∷ []))

are-snoc : (l : List ℕ) (b : ℕ) → are_digits l ≡ true → digit_of b < 16 → are_digits (l ++ (b ∷ [])) ≡ true
are-snoc [] b e h = simp (lt-ltb (digit_of b) 16 h)
are-snoc (x ∷ l) b e h = rw ((first-digit x l e).0, are-snoc l b (first-digit x l e).1 h)

are-digits : (k n : ℕ) → are_digits (last_digits 16 k n) ≡ true
are-digits zero n = refl
are-digits (suc k) n =
    let d : n % 16 < 16 = mod-lt n (lit< tt) in
    are-snoc (last_digits 16 k (n / 16)) (hex_digit_ascii (n % 16)) (are-digits k (n / 16)) (rw (glyph-read (n % 16) d) d)

value-snoc : (v : ℕ) (l : List ℕ) (b : ℕ) → value_after v (l ++ (b ∷ [])) ≡ value_after v l * 16 + digit_of b
value-snoc v [] b = refl
value-snoc v (x ∷ l) b = value-snoc (v * 16 + digit_of x) l b

-- n has k + 1 digits: n / 16 has k
fewer : (k n : ℕ) → n < 16 ^ suc k → n / 16 < 16 ^ k
fewer k n h = (div-lt_iff_lt-mul {k = 16} (lit< tt)).1 (rw pow-suc at h)

digits_value : (k n : ℕ) → n < 16 ^ k → value_of (last_digits 16 k n) ≡ n
digits_value zero n h = omega arith
digits_value (suc k) n h =
    value-snoc 0 (last_digits 16 k (n / 16)) (hex_digit_ascii (n % 16))
    ∙ rw (digits_value k (n / 16) (fewer k n h), glyph-read (n % 16) (mod-lt n (lit< tt)), div-add-mod' n 16)

-- ---- no leading zero

glyph-some : (n : ℕ) → 0 < n → n < 16 → hex_digit_ascii n ≡ 48 → ⊥
unfolding digit_of
glyph-some n h l e = let z : n ≡ 0 = sym (glyph-read n l) ∙ ap digit_of e in omega arith

leads : (k n : ℕ) → 16 ^ k ≤ n → n < 16 ^ suc k → get_or (last_digits 16 (suc k) n) 0 0 ≡ 48 → ⊥
leads zero n h l e = glyph-some (n % 16) (omega arith) (mod-lt n (lit< tt)) e
leads (suc k) n h l e =
    let some : 0 < length (last_digits 16 (suc k) (n / 16)) = omega (arith, digits-length (suc k) (n / 16)) in
    let more : 16 ^ k ≤ n / 16 = (le-div_iff_mul-le {k = 16} (lit< tt)).1 (rw pow-suc at h) in
    leads k (n / 16) more (fewer (suc k) n l)
    (sym (get_or-append (last_digits 16 (suc k) (n / 16)) (hex_digit_ascii (n % 16) ∷ []) 0 0 some) ∙ e)

no-leading-zero : (k n : ℕ) → IsDigitCount 16 1 n k → leads_with_zero (last_digits 16 k n) ≡ false
unfolding leads_with_zero
no-leading-zero zero n f = refl
no-leading-zero (suc zero) n f = refl
no-leading-zero (suc (suc k)) n f =
    let least : 16 ^ suc k ≤ n = rw sub-one at (f.2 (omega arith)) in
    simp (le-leb 2 (length (last_digits 16 (suc (suc k)) n)) (omega (arith, digits-length (suc (suc k)) n)), ne_eqb _ 48 (leads (suc k) n least f.1))

-- a number of 64 bits has at most 16 digits
sixteen : (k n : ℕ) → IsDigitCount 16 1 n k → n < 2 ^ 64 → k ≤ 16
sixteen k n f h = go (ltb 16 k) refl
  where
    go : (t : Bool) → ltb 16 k ≡ t → k ≤ 16
    go false e = ltb-false 16 k e
    go true e =
        let long : 16 < k = ltb-true 16 k e in
        let big : 16 ^ 16 ≤ n = le_trans (pow-le-pow_right {n = 16} (lit< tt) {i = 16} {j = k - 1} (omega arith)) (f.2 (omega arith)) in
        absurd (omega arith)

pub read_back : (k n most : ℕ) → IsDigitCount 16 1 n k → n ≤ most → most < 2 ^ 64 → number_at_most most (last_digits 16 k n) ≡ Some n
unfolding number_at_most is_number
read_back k n most f h m =
    let long = digits-length k n in
    simp
    (lt-ltb 0 (length (last_digits 16 k n)) (omega (arith, f.0)), le-leb (length (last_digits 16 k n)) 16 (omega (arith, sixteen k n f (lt_of_le_of_lt h m))), no-leading-zero k n f, are-digits k n, digits_value k n f.1, le-leb n most h)
