-- The fewest digits that hold a number are its numeral.
use mathlib.Core.Path.{◌≡◌, ap, subst}
use mathlib.Core.Bool.{Bool, true, false, cond, ◌&&◌}
use mathlib.Core.List.{List, [], ◌∷◌, ◌++◌}
use Prim.Native.Nat.{ℕ, zero, suc, ◌-◌, ◌/◌, ◌%◌, ◌^◌, ◌≤◌, ◌<◌}
use native.Mathlib.Nat.{le_trans, one-mul, pow-zero, pow-suc, pow-le-pow_right, div-lt_iff_lt-mul, le-div_iff_mul-le, mod-eq_of_lt}
use native.Mathlib.Decide.{dec_lt}
use native.Mathlib.Omega.{arith}
use borrow.Author.Tests.{lt-ltb, le-ltb}
use lib.Dec.{ltb}
use lib.ListN.{length, take, length-append}
use Rattle.io.specs.Digits.{hex_digit_ascii, last_digits, IsDigitCount}
use Rattle.print.specs.declared.Printer.{Printer}
use Rattle.print.specs.Printer.{Printed}
use Rattle.numerals.specs.Numerals.{numeral}

once : (b : ℕ) → b ^ 1 ≡ b
once b = rw (pow-suc b 0, pow-zero b, one-mul b)

module _ (b : ℕ) (base : 1 < b) where
  -- one digit and j more
  fewest : (j least most n : ℕ) → j < most → least ≤ suc j → n < b ^ suc j → (0 < j → least ≤ j → b ^ j ≤ n) → last_digits b (suc j) n ≡ numeral b least most n
  unfolding numeral
  fewest j least zero n room few fits tight = absurd (omega arith)
  fewest zero least (suc m) n room few fits tight =
      let one : n < b = rw (once b) at fits in
      rw (lt-ltb least 2 (omega arith), lt-ltb n b one, mod-eq_of_lt one)
  fewest (suc j) least (suc m) n room few fits tight =
      rw many
      (ap (λ (ds : List ℕ). ds ++ (hex_digit_ascii (n % b) ∷ []))
      (fewest j (least - 1) m (n / b) (omega arith) (omega arith) ((div-lt_iff_lt-mul (omega arith)).1 (rw (pow-suc b (suc j)) at fits))
      (λ h l. (le-div_iff_mul-le (omega arith)).1 (rw (pow-suc b j) at (tight (omega arith) (omega arith))))))
    where
      many : (ltb least 2 && ltb n b) ≡ false
      many =
          elim (dec_lt least 2) [
            | yes l ↦ rw (lt-ltb least 2 l) (le-ltb n b (le_trans (rw (once b) at (pow-le-pow_right {n = b} (omega arith) {i = 1} {j = suc j} (omega arith))) (tight (omega arith) (omega arith))))
            | no l ↦ rw (le-ltb least 2 (omega arith))
          ]

  pub fewest-digits : (least most n k : ℕ) → 0 < least → k ≤ most → IsDigitCount b least n k → last_digits b k n ≡ numeral b least most n
  fewest-digits least most n zero some room f = absurd (omega (arith, f.0))
  fewest-digits least most n (suc j) some room f =
      fewest j least most n (omega arith) f.0 f.1 (λ h l. subst (λ (z : ℕ). b ^ z ≤ n) {x = suc j - 1} {y = j} (omega arith) (f.2 (omega arith)))

  -- as many digits as are asked for, where they hold the number
  pub exact-digits : (w most n : ℕ) → 0 < w → w ≤ most → n < b ^ w → last_digits b w n ≡ numeral b w most n
  exact-digits w most n some room fits = fewest-digits w most n w some room (omega arith, fits, λ l. absurd (omega arith))

  few : (least most n k : ℕ) → least ≤ most → n < b ^ most → IsDigitCount b least n k → k ≤ most
  few least most n k room fits f =
      elim (dec_lt most k) [
        | yes l ↦
            let more : b ^ most ≤ b ^ (k - 1) = pow-le-pow_right {n = b} (omega arith) {i = most} {j = k - 1} (omega arith) in
            absurd (omega (arith, f.2 (omega arith)))
        | no l ↦ omega arith
      ]

  -- a number, printed from an array that begins with its digits
  pub put-number : (least most n k : ℕ) (array : List ℕ) {old new : Printer} → 0 < least → least ≤ most → n < b ^ most → IsDigitCount b least n k → take k array ≡ last_digits b k n
      → Printed (take k array) old new → Printed (numeral b least most n) old new
  put-number least most n k array some room fits f e p = rw (e, fewest-digits least most n k some (few least most n k room fits f) f) at p

pub numeral-length : (b least most n : ℕ) → length (numeral b least most n) ≤ most
unfolding numeral
numeral-length b least zero n = omega arith
numeral-length b least (suc m) n = go (ltb least 2 && ltb n b) (numeral-length b (least - 1) m (n / b))
  where
    go : (t : Bool) → length (numeral b (least - 1) m (n / b)) ≤ m → length (cond t (hex_digit_ascii n ∷ []) (numeral b (least - 1) m (n / b) ++ (hex_digit_ascii (n % b) ∷ []))) ≤ suc m
    go true h = omega arith
    go false h = rw (length-append (numeral b (least - 1) m (n / b)) (hex_digit_ascii (n % b) ∷ [])) (omega arith)
