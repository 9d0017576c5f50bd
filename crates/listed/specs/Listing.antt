-- The text of a listing: document 01, the last of "Worked by hand".
use Rattle.std.specs.Prelude.{false, cond, List, [], ◌∷◌, ◌++◌, ℕ, zero, suc, ◌+◌, ◌*◌, ◌/◌, ◌%◌, length, drop, replicate, ltb}
use Rattle.std.proofs.Math.Option.{Option, none, some}
use Rattle.lists.specs.Lists.{tab, joined}
use Rattle.numerals.specs.Numerals.{decimal_text}
use Rattle.encode.specs.declared.Header.{Header}
use Rattle.index.specs.Arrays.{Arrays}
use Rattle.index.specs.Step.{first_of, when}
use Rattle.index.specs.Read.{little_endian, version_in, count_in, header_in, head_fault, stages_in, key_from, entries_in, read_refusal}

-- ---- refusals

-- "Its arrays hold 1,024 slots and 32,768 code bytes, as many again for the residual". What they hold at first counts for nothing.
unfoldable pub room : Arrays
room =
    let slots = replicate {A = ℕ} 1024 0 in
    let bytes = replicate {A = ℕ} 32768 0 in
    record {
      codes = bytes;
      scales = slots;
      keys = slots;
      keyed = replicate 1024 false;
      held = slots;
      alive = slots;
      codes2 = bytes;
      scales2 = slots;
      years = slots;
    }

-- "a count past either is 20, and so is a file over 65,536 bytes that passes the tests before 20"; 0 for none
unfoldable pub listing_refusal : (file : List ℕ) → ℕ
listing_refusal file = first_of (head_fault file ∷ when (ltb 65536 (length file)) 20 ∷ read_refusal file room ∷ [])

-- ---- lines

abbrev newline : List ℕ
newline = 10 ∷ []

-- a blank, and the number in decimal
abbrev pub next_number : ℕ → List ℕ
next_number n = 32 ∷ decimal_text n

-- "`261 1 1 5 1` (version, dim, working_dim, width, live)"
unfoldable pub head_line : (version : ℕ) → Header → (live : ℕ) → List ℕ
head_line v h n = decimal_text v ++ next_number h.dim ++ next_number h.working_dim ++ next_number h.bits ++ next_number n ++ newline

-- "key in decimal or -"
abbrev pub key_text : Option ℕ → List ℕ
key_text none = 45 ∷ []
key_text (some k) = decimal_text k

-- the ASCII code of a digit below 16: `0` to `9`, then `A` to `F`
abbrev pub upper_digit : ℕ → ℕ
upper_digit d = cond (ltb d 10) (48 + d) (55 + d)

abbrev pub half_text : ℕ → List ℕ
half_text h = upper_digit (h / 4096 % 16) ∷ upper_digit (h / 256 % 16) ∷ upper_digit (h / 16 % 16) ∷ upper_digit (h % 16) ∷ []

-- "`0 - 3B9A` (slot, key in decimal or -, the first scale as a half ..)"
unfoldable pub slot_line : (slot : ℕ) → (key : Option ℕ) → (half : ℕ) → List ℕ
slot_line i k h = decimal_text i ++ (32 ∷ key_text k) ++ (32 ∷ half_text h ++ newline)

-- "A refused file prints its number alone."
abbrev pub refusal_line : (number : ℕ) → List ℕ
refusal_line n = decimal_text n ++ newline

-- ---- the text

-- "the first scale as a half": as the file has it
unfoldable pub half_in : (file : List ℕ) → (slot : ℕ) → ℕ
half_in file i = little_endian 2 (drop (i * 2) (stages_in file))

-- a line for each slot of the file: all of them are live
abbrev pub lines_of : (file : List ℕ) → (key_of : ℕ → Option ℕ) → List ℕ
lines_of file key_of = joined (tab (λ i. slot_line i (key_of i) (half_in file i)) (count_in file))

abbrev pub text_unless : (refusal : ℕ) → (file : List ℕ) → List ℕ
text_unless zero file = head_line (version_in file) (header_in file) (count_in file) ++ lines_of file (key_from (entries_in file))
text_unless (suc n) file = refusal_line (suc n)

unfoldable pub listing_text : (file : List ℕ) → List ℕ
listing_text file = text_unless (listing_refusal file) file
