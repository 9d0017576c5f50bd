-- Elements printed one after the other.
use mathlib.Core.Path.{◌≡◌, refl}
use mathlib.Core.List.{List, [], ◌∷◌, ◌++◌, append-nil, append_assoc}
use Prim.Native.Nat.{ℕ, ◌+◌, ◌^◌, ◌≤◌, ◌<◌}
use native.Mathlib.Nat.{le_antisymm}
use native.Mathlib.Numerals.{add-one}
use native.Mathlib.Omega.{arith}
use lib.Dec.{lit<}
use lib.ListN.{length, take, get_or}
use lib.Seq.{take-suc, take-length}
use Rattle.io.specs.Digits.{last_digits}
use Rattle.print.specs.declared.Printer.{Printer}
use Rattle.print.specs.Printer.{Printed}
use Rattle.print.proofs.Places.{put_none, put_then}
use Rattle.numerals.specs.Numerals.{numeral}
use Rattle.numerals.proofs.Numeral.{exact-digits}
use Rattle.runs.specs.Runs.{digits_of_each, run_text}

-- ---- elements of w digits each

module _ {A : Type 0} (w : ℕ) (number : A → ℕ) where
  each_snoc : (xs : List A) (x : A) → digits_of_each w number (xs ++ (x ∷ [])) ≡ digits_of_each w number xs ++ last_digits 16 w (number x)
  each_snoc [] x = append-nil (last_digits 16 w (number x))
  each_snoc (y ∷ xs) x = rw (each_snoc xs x, append_assoc)

  -- the first i elements are printed
  pub record First (xs : List A) (i : ℕ) (old new : Printer) : Type 0 where
    pub some : i ≤ length xs
    pub put : Printed (digits_of_each w number (take i xs)) old new

  pub first_none : (xs : List A) (p : Printer) → First xs 0 p p
  first_none xs p = record { some = omega arith; put = put_none p }

  -- one more, whose number is n
  pub first_more : (xs : List A) (z : A) (i n : ℕ) {old mid new : Printer} → 0 < w → w ≤ 16 → i < length xs → n ≡ number (get_or xs i z) → n < 16 ^ w
      → First xs i old mid → Printed (numeral 16 w 16 n) mid new → First xs (i + 1) old new
  first_more xs z i n some room h e small p q =
      record {
        some = omega arith;
        put =
            rw (add-one, take-suc xs i z, each_snoc (take i xs) (get_or xs i z), ← e)
            (put_then p.put (rw (← exact-digits 16 (lit< tt) w 16 n some room small) at q));
      }

  run-some : (xs : List A) → (length xs ≡ 0 → ⊥) → digits_of_each w number xs ≡ run_text w number xs
  run-some [] h = absurd (h refl)
  run-some (x ∷ xs) h = refl

  pub first-all : (xs : List A) (i : ℕ) {old new : Printer} → (length xs ≡ 0 → ⊥) → length xs ≤ i → First xs i old new → Printed (run_text w number xs) old new
  first-all xs i some h p = rw (le_antisymm p.some h, take-length, run-some xs some) at p.put
