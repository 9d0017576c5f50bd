-- How a field is read, as the language of the program `exercise` has it: "Every number is hexadecimal, lower case, with no prefix and no leading zero
-- (`0` is zero)"; "A number has at most 16 digits"; "A vector is the binary32 patterns of its entries, eight digits each, run together; bytes are two
-- digits each, run together; an empty vector or an empty run of bytes is `-`".
use Rattle.std.specs.Prelude.{◌≡◌, refl, ℕ, ◌+◌, ◌-◌, ◌*◌, ◌/◌, ◌%◌, ◌≤◌, ◌<◌, Bool, true, ◌&&◌, not, cond, List, [], ◌∷◌, eqb, ltb, leb, Float, Option, Some, None, length, take, drop, get_or}
use Rattle.std.specs.Float.{binary32}
use Rattle.std.specs.Float.Ieee.{of_bits}
use Rattle.std.specs.List.{list_all}
use Rattle.lists.specs.Lists.{tab}

-- ---- digits

abbrev pub inside : ℕ → ℕ → ℕ → Bool
inside low high b = leb low b && leb b high

-- the value of a digit's byte, `0` to `9` and then `a` to `f`; 16 for a byte that is no digit
unfoldable pub digit_of : ℕ → ℕ
digit_of b = cond (inside 48 57 b) (b - 48) (cond (inside 97 102 b) (b - 87) 16)

abbrev pub are_digits : List ℕ → Bool
are_digits ds = list_all (λ b. ltb (digit_of b) 16) ds

-- the number that digits stand for where v stands for those before them
abbrev pub value_after : ℕ → List ℕ → ℕ
value_after v [] = v
value_after v (b ∷ bs) = value_after (v * 16 + digit_of b) bs

abbrev pub value_of : List ℕ → ℕ
value_of ds = value_after 0 ds

-- ---- a number

-- several digits, and the first is `0`
unfoldable pub leads_with_zero : List ℕ → Bool
leads_with_zero f = leb 2 (length f) && eqb (get_or f 0 0) 48

-- 1 to 16 digits, without leading zero
unfoldable pub is_number : List ℕ → Bool
is_number f = ltb 0 (length f) && (leb (length f) 16 && (not (leads_with_zero f) && are_digits f))

-- the number that digits stand for; none where there is a byte that is no digit
abbrev pub digits_read : List ℕ → Option ℕ
digits_read ds = cond (are_digits ds) (Some (value_of ds)) None

-- the number that the field is, where it is one of at most `most`
unfoldable pub number_at_most : ℕ → List ℕ → Option ℕ
number_at_most most f = cond (is_number f && leb (value_of f) most) (Some (value_of f)) None

-- ---- vectors and bytes: elements of w digits each

-- `-`, for an empty run
unfoldable pub is_dash : List ℕ → Bool
is_dash f = eqb (length f) 1 && eqb (get_or f 0 0) 45

-- one element or more, of w digits each, and no more elements than there is room for
unfoldable pub is_run : ℕ → ℕ → List ℕ → Bool
is_run w room f = ltb 0 (length f) && (eqb (length f % w) 0 && (leb (length f / w) room && are_digits f))

-- how many elements the field has, where it is a run of them
unfoldable pub run_of : ℕ → ℕ → List ℕ → Option ℕ
run_of w room f = cond (is_dash f) (Some 0) (cond (is_run w room f) (Some (length f / w)) None)

-- a run of n elements of w digits: there is room for them, and where there are any the field has all their digits
pub record IsRun (w room : ℕ) (f : List ℕ) (n : ℕ) : Type 0 where
  pub fits : n ≤ room
  pub digits : 0 < n → are_digits f ≡ true
  pub whole : 0 < n → w * n ≤ length f

-- element i
abbrev pub element_of : ℕ → List ℕ → ℕ → ℕ
element_of w f i = value_of (take w (drop (w * i) f))

-- the first n entries of a vector, and the first n bytes
abbrev pub floats_of : List ℕ → ℕ → List Float
floats_of f n = tab (λ i. of_bits binary32 (element_of 8 f i)) n

abbrev pub bytes_of : List ℕ → ℕ → List ℕ
bytes_of f n = tab (element_of 2 f) n

-- ---- worked by hand

-- `1f` is 31, which is not at most 30; `0` is 0, and `01` is no number
number-worked : (number_at_most 31 (49 ∷ 102 ∷ []) ≡ Some 31) × (number_at_most 30 (49 ∷ 102 ∷ []) ≡ None) × (number_at_most 0 (48 ∷ []) ≡ Some 0) × (number_at_most 9 (48 ∷ 49 ∷ []) ≡ None)
unfolding number_at_most is_number leads_with_zero digit_of
number-worked = (refl, refl, refl, refl)

-- `0aff` is the two bytes 10 and 255, `-` is none, and `0af` is no run of bytes
bytes-worked : (run_of 2 9 (48 ∷ 97 ∷ 102 ∷ 102 ∷ []) ≡ Some 2) × (bytes_of (48 ∷ 97 ∷ 102 ∷ 102 ∷ []) 2 ≡ 10 ∷ 255 ∷ []) × (run_of 2 9 (45 ∷ []) ≡ Some 0) × (run_of 2 9 (48 ∷ 97 ∷ 102 ∷ []) ≡ None)
unfolding run_of is_run is_dash digit_of
bytes-worked = (refl, refl, refl, refl)
