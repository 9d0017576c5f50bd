-- The years of a file, by what its version has: 02, Req 06.
use mathlib.Core.Path.{◌≡◌, refl, sym, ap, ◌∙◌}
use mathlib.Core.Bool.{Bool, true, false, cond}
use mathlib.Core.List.{List, [], ◌∷◌, ◌++◌}
use Prim.Native.Nat.{ℕ, zero, suc, ◌+◌, ◌*◌, ◌≤◌}
use native.Mathlib.Numerals.{add-one}
use native.Mathlib.Omega.{arith}
use lib.ListN.{length, take, drop, get_or, replicate}
use Rattle.lists.specs.Lists.{tab, over}
use Rattle.lists.proofs.Laws.{tab-ext}
use Rattle.index.specs.declared.Form.{Form}
use Rattle.index.specs.Read.{little_endian, form_in, years_in, year_in}
use Rattle.read.proofs.Keys.{filled}

-- a number of two bytes; one that is not there counts 0
pub two-bytes : (bytes : List ℕ) (k : ℕ) → little_endian 2 (drop k bytes) ≡ get_or bytes k 0 + 256 * get_or bytes (k + 1) 0
unfolding little_endian
two-bytes [] zero = refl
two-bytes [] (suc k) = refl
two-bytes (b ∷ []) zero = omega arith
two-bytes (b ∷ c ∷ bytes) zero = omega arith
two-bytes (b ∷ bytes) (suc k) = rw (add-one (suc k)) (rw (add-one k) at (two-bytes bytes k))

module _ (file : List ℕ) (f : Form) (form_is : f ≡ form_in file) where
  year-is : (b : Bool) → f.years ≡ b → (i : ℕ) → year_in file i ≡ cond b (little_endian 2 (drop (i * 2) (years_in file))) 1
  year-is b e i = ap (λ (z : Bool). cond z (little_endian 2 (drop (i * 2) (years_in file))) 1) (ap (λ (g : Form). g.years) (sym form_is) ∙ e)

  -- "Older files read as year 1 throughout."
  pub ones-written : f.years ≡ false → (n : ℕ) (years ys : List ℕ) → n ≤ length years → ys ≡ replicate (length (take n years)) 1 →
      ys ++ drop n years ≡ over (tab (year_in file) n) years
  ones-written e n years ys l w =
      ap (λ (zs : List ℕ). zs ++ drop n years) w ∙ filled 1 n years l
      ∙ ap (λ (zs : List ℕ). over zs years) (sym (tab-ext (year_in file) (λ _. 1) n (λ i h. year-is false e i)))

  -- "one year per live slot, in slot order": all slots of a file are live
  pub year-read : f.years ≡ true → (i y : ℕ) (bytes : List ℕ) → bytes ≡ years_in file → y ≡ get_or bytes (i * 2) 0 + 256 * get_or bytes (i * 2 + 1) 0 → y ≡ year_in file i
  year-read e i y bytes eb ey = ey ∙ sym (two-bytes bytes (i * 2)) ∙ ap (λ (bs : List ℕ). little_endian 2 (drop (i * 2) bs)) eb ∙ sym (year-is true e i)
