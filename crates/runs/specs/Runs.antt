-- How runs of numbers are printed.
use Rattle.std.specs.Prelude.{◌≡◌, refl, List, [], ◌∷◌, ◌++◌, ℕ}
use Rattle.io.specs.Digits.{last_digits}

-- w hexadecimal digits for each element, run together; `number` is the number that an element is printed as
abbrev pub digits_of_each : {A : Type 0} → ℕ → (A → ℕ) → List A → List ℕ
digits_of_each w number [] = []
digits_of_each w number (x ∷ xs) = last_digits 16 w (number x) ++ digits_of_each w number xs

-- "run together", and `-` where there is no element
abbrev pub run_text : {A : Type 0} → ℕ → (A → ℕ) → List A → List ℕ
run_text w number [] = 45 ∷ []
run_text w number (x ∷ xs) = digits_of_each w number (x ∷ xs)

-- worked by hand: the bytes 10 and 255 are `0aff`
worked : run_text 2 (λ (b : ℕ). b) (10 ∷ 255 ∷ []) ≡ 48 ∷ 97 ∷ 102 ∷ 102 ∷ []
worked = refl
