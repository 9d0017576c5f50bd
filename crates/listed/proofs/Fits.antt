-- No text is longer than 65,536 bytes.
use mathlib.Core.Path.{◌≡◌, refl}
use mathlib.Core.List.{List, [], ◌∷◌, ◌++◌}
use mathlib.Core.Option.{Option, none, some}
use Prim.Native.Nat.{ℕ, zero, suc, ◌*◌, ◌≤◌}
use native.Mathlib.Nat.{suc-mul}
use native.Mathlib.Omega.{arith}
use lib.ListN.{length, length-append}
use Rattle.lists.specs.Lists.{tab, joined}
use Rattle.numerals.specs.Numerals.{decimal_text}
use Rattle.numerals.proofs.Numeral.{numeral-length}
use Rattle.encode.specs.declared.Header.{Header}
use Rattle.index.specs.Read.{version_in, count_in, header_in, key_from, entries_in, read_refusal}
use Rattle.index.proofs.Blocks.{joined-append}
use Rattle.index.proofs.Overlay.{roomy}
use Rattle.index.proofs.Kept.{first-none}
use Rattle.index.proofs.Read.{accepted}
use Rattle.listed.specs.Listing.{room, listing_refusal, head_line, key_text, slot_line, half_in, text_unless, listing_text}
use Rattle.listed.specs.Whole.{TextFits}
use Rattle.listed.proofs.Room.{slots-room}

-- ---- lines

few-digits : (n : ℕ) → length (decimal_text n) ≤ 20
few-digits n = numeral-length 10 1 20 n

head-length : (v : ℕ) (h : Header) (n : ℕ) → length (head_line v h n) ≤ 105
unfolding head_line
head-length v h n = simp length-append (omega (arith, few-digits v, few-digits h.dim, few-digits h.working_dim, few-digits h.bits, few-digits n))

key-length : (k : Option ℕ) → length (key_text k) ≤ 20
key-length none = omega arith
key-length (some k) = few-digits k

line-length : (i : ℕ) (k : Option ℕ) (h : ℕ) → length (slot_line i k h) ≤ 47
unfolding slot_line
line-length i k h = simp length-append (omega (arith, few-digits i, key-length k))

lines-length : (line : ℕ → List ℕ) (m : ℕ) → ((i : ℕ) → length (line i) ≤ m) → (n : ℕ) → length (joined (tab line n)) ≤ n * m
unfolding joined
lines-length line m h zero = omega arith
lines-length line m h (suc n) =
    rw (joined-append (tab line n) (line n ∷ []), length-append (joined (tab line n)) (line n ++ []), length-append (line n) [], suc-mul n m)
    (omega (arith, lines-length line m h n, h n))

-- ---- the text

few-slots : (file : List ℕ) → listing_refusal file ≡ 0 → count_in file ≤ 1024
unfolding listing_refusal
few-slots file e =
    let passed : read_refusal file room ≡ 0 = (first-none _ [] (first-none _ _ (first-none _ _ e).1).1).0 in
    omega (arith, (roomy (count_in file) (header_in file) room (accepted file room passed).space).scales, slots-room)

pub text-fits : TextFits
unfolding listing_text
text-fits file = go (listing_refusal file) refl
  where
    go : (n : ℕ) → listing_refusal file ≡ n → length (text_unless n file) ≤ 65536
    go zero e =
        let line : ℕ → List ℕ = λ i. slot_line i (key_from (entries_in file) i) (half_in file i) in
        let lines = lines-length line 47 (λ i. line-length i (key_from (entries_in file) i) (half_in file i)) (count_in file) in
        simp length-append (omega (arith, head-length (version_in file) (header_in file) (count_in file), lines, few-slots file e))
    go (suc n) e = simp length-append (omega (arith, few-digits (suc n)))
