-- A text that was printed into a buffer with room for it.
use Rattle.std.proofs.Common.{◌≡◌, ℕ, ◌≤◌, List, [], ◌∷◌, length, take, ◌∙◌, length-append, arith}
use Rattle.print.specs.declared.Printer.{Printer}
use Rattle.print.specs.Printer.{Printed}
use Rattle.print.proofs.Places.{whole}
use Rattle.numerals.specs.Numerals.{decimal_text}
use Rattle.numerals.proofs.Numeral.{numeral-length}
use Rattle.streams.specs.Streams.{refused_text}

pub refused-short : (n : ℕ) → length (refused_text n) ≤ 32
refused-short n = omega (arith, numeral-length 10 1 20 n, length-append (decimal_text n) (10 ∷ []))

-- the bytes that the printer holds are the text
pub told : (text : List ℕ) (old new : Printer) (bytes : List ℕ) → old.at ≡ 0 → length text ≤ length old.out.now → Printed text old new → bytes ≡ take new.at new.out.now → bytes ≡ text
told text old new bytes empty room p is = is ∙ (whole old.out.now text new.out.now new.at room (rw empty at p.prints)).1
