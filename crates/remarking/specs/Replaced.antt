-- A list changed at some of its first places.
use Rattle.std.specs.Prelude.{Bool, cond, List, ℕ, get_or}
use Rattle.lists.specs.Lists.{tab, over}

-- x at those of the first n places that pass the test, all other places as they were; d is what is read past the end
unfoldable pub replaced_where : {A : Type 0} → (ℕ → Bool) → (n : ℕ) → (x d : A) → List A → List A
replaced_where p n x d xs = over (tab (λ i. cond (p i) x (get_or xs i d)) n) xs
