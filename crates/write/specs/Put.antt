-- Bytes written into a file from a place on.
use Rattle.std.specs.Prelude.{◌≡◌, List, ℕ, ◌+◌, ◌≤◌, length}
use Rattle.std.proofs.lemmas.List.Edits.{sets}
use Rattle.write.specs.declared.Writer.{Writer}

-- as many bytes have room from the next place on
abbrev pub Room : (bytes : List ℕ) → Writer → Type 0
Room bytes w = w.at + length bytes ≤ length w.file.now

-- the bytes stand from the next place on, the next place is the one after them, and all other places keep their contents: so there are as many. The file is the same.
pub record Put (bytes : List ℕ) (old new : Writer) : Type 0 where
  pub after : new.at ≡ old.at + length bytes
  pub written : new.file.now ≡ sets old.file.now old.at bytes
  pub same : length new.file.now ≡ length old.file.now
  pub same_file : new.file.ghost_name ≡ old.file.ghost_name
