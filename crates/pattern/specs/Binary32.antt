-- Binary32's operations as document 01 uses them, "every operation rounded once": IEEE 754-2019, 5.4.1, to nearest, ties to even.
use Rattle.std.specs.Prelude.{List, [], ◌∷◌, map, ℕ, false, cond, ◌||◌, pos, Float}
use Rattle.std.specs.Float.{fin, binary32}
use Rattle.std.specs.Float.Ieee.{add, sub, mul, div, lt, is_nan, of_int}

infixl 65 ◌⊕◌
infixl 65 ◌⊖◌
infixl 70 ◌⊗◌
infixl 70 ◌⊘◌
abbrev pub ◌⊕◌ : Float → Float → Float
x ⊕ y = add binary32 x y

abbrev pub ◌⊖◌ : Float → Float → Float
x ⊖ y = sub binary32 x y

abbrev pub ◌⊗◌ : Float → Float → Float
x ⊗ y = mul binary32 x y

abbrev pub ◌⊘◌ : Float → Float → Float
x ⊘ y = div binary32 x y

abbrev pub +0 : Float
+0 = fin false 0 (pos 0)

-- a whole number, exact up to 2 ^ 24
abbrev pub of_nat : ℕ → Float
of_nat n = of_int binary32 (pos n)

-- the sum from acc on, in the list's order
unfoldable pub sum_from : Float → List Float → Float
sum_from acc [] = acc
sum_from acc (x ∷ xs) = sum_from (acc ⊕ x) xs

-- the sum in index order, from +0
abbrev pub sum_of : List Float → Float
sum_of xs = sum_from +0 xs

-- 01, store.rs: "Squares are summed in index order"; "`powi(2)` is one product"
abbrev pub sum_squares : List Float → Float
sum_squares xs = sum_of (map (λ x. x ⊗ x) xs)

-- the larger of the two, and y where x is a NaN, as Rust's `max`
unfoldable pub larger : Float → Float → Float
larger x y = cond (is_nan x || lt x y) y x
