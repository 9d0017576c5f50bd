-- Lists that the kit's library has no name for.
use Rattle.std.specs.Prelude.{ℕ, zero, suc, ◌+◌, List, [], ◌∷◌, ◌++◌, length, take, drop}

-- f 0, f 1, .., f (n - 1)
abbrev pub tab {ℓ} : {A : Type ℓ} → (ℕ → A) → ℕ → List A
tab f zero = []
tab f (suc n) = tab f n ++ (f n ∷ [])

-- f of the first entries, f of the second entries, .., as far as both lists reach
abbrev pub zip_with {ℓ ℓ' ℓ''} : {A : Type ℓ} {B : Type ℓ'} {C : Type ℓ''} → (A → B → C) → List A → List B → List C
zip_with f [] ys = []
zip_with f (x ∷ xs) [] = []
zip_with f (x ∷ xs) (y ∷ ys) = f x y ∷ zip_with f xs ys

-- ys over the first places of xs: the later places keep their contents
unfoldable pub over {ℓ} : {A : Type ℓ} → List A → List A → List A
over ys xs = ys ++ drop (length ys) xs

-- ys over the places of xs from i on: the others keep their contents
unfoldable pub splice {ℓ} : {A : Type ℓ} → (i : ℕ) → (ys xs : List A) → List A
splice i ys xs = take i xs ++ ys ++ drop (i + length ys) xs

-- 0, 1, .., n - 1
abbrev pub below : ℕ → List ℕ
below n = tab (λ i. i) n

-- the lists one after the other
unfoldable pub joined : List (List ℕ) → List ℕ
joined [] = []
joined (b ∷ bs) = b ++ joined bs

abbrev pub total : List ℕ → ℕ
total [] = 0
total (n ∷ ns) = n + total ns
