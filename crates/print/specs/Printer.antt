-- What happens to a printer.
use Rattle.std.specs.Prelude.{◌≡◌, List, ℕ}
use Rattle.print.specs.declared.Printer.{Printer}
use Rattle.print.specs.Printed.{Prints}

-- the bytes were printed after what was printed before, into the same buffer
pub record Printed (bytes : List ℕ) (old new : Printer) : Type 0 where
  pub prints : Prints old.out.now old.at bytes new.out.now new.at
  pub same_buffer : new.out.ghost_name ≡ old.out.ghost_name

-- nothing is printed any more, and the same buffer holds these bytes
pub record Emptied (bytes : List ℕ) (old new : Printer) : Type 0 where
  pub buffer : new.out.now ≡ bytes
  pub empty : new.at ≡ 0
  pub same_buffer : new.out.ghost_name ≡ old.out.ghost_name
