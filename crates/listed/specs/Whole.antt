-- What a program over standard input rests on: a buffer that holds every listing, and how much of a file must be read.
use Rattle.std.specs.Prelude.{◌≡◌, List, ℕ, ◌≤◌, ◌<◌, length, take}
use Rattle.listed.specs.Listing.{listing_text}

-- no text is longer than 65,536 bytes
abbrev pub TextFits : Type 0
TextFits = (file : List ℕ) → length (listing_text file) ≤ 65536

-- of a file that is too long the first 65,537 bytes give the listing of all
abbrev pub PartTells : Type 0
PartTells = (file : List ℕ) → 65536 < length file → listing_text (take 65537 file) ≡ listing_text file
