-- Files without years: document 02, Req 06.
use Rattle.std.specs.Prelude.{◌≡◌, true, List, map, ℕ, ◌++◌, ◌≤◌, length}
use Rattle.lists.specs.Lists.{joined}
use Rattle.lists.specs.Keep.{Each}
use Rattle.encode.specs.declared.Header.{Header}
use Rattle.index.specs.File.{Entry, le_bytes, plain_version, no_duty, width_byte, stage_bytes, second_stages, key_entries, head_bytes, file_of}
use Rattle.index.specs.Read.{version_in, slots_in}

-- the byte form of document 01 alone
unfoldable pub plain_file : Header → List Entry → List ℕ
plain_file h es =
    head_bytes (plain_version h) h (length es) ++ width_byte (plain_version h) h
    ++ stage_bytes (map (λ e. e.code.first) es) ++ stage_bytes (second_stages es)
    ++ le_bytes 4 (length (key_entries 0 es)) ++ joined (key_entries 0 es)

-- "Files whose live slots all have year 1 are written as before."
abbrev pub WrittenAsBefore : Type 0
WrittenAsBefore = (h : Header) (es : List Entry) → no_duty es ≡ true → file_of h es ≡ plain_file h es

-- "Older files read as year 1 throughout."
abbrev pub OlderReadAsYear1 : Type 0
OlderReadAsYear1 = (file : List ℕ) → version_in file ≤ 261 → Each (λ s. s.year ≡ 1) (slots_in file)
