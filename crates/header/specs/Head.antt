-- What the head of a file states.
use Rattle.std.specs.Prelude.{List, ℕ}
use Rattle.index.specs.Read.{version_in, header_in, count_in}
use Rattle.header.specs.declared.Head.{Head}

-- "VECQ, version 16-bit, working_dim 16-bit .., dim 32, seed 64, live count 32; width byte for 261"
abbrev pub head_of : (file : List ℕ) → Head
head_of file = record { version = version_in file; header = header_in file; count = count_in file }
