-- Of a file that is too long the first 65,537 bytes give the listing of all.
use mathlib.Core.Path.{◌≡◌, refl, sym, ap, ◌∙◌}
use mathlib.Core.Bool.{Bool, true, false, cond, not}
use mathlib.Core.List.{List, [], ◌∷◌}
use Prim.Native.Nat.{ℕ, zero, suc, ◌+◌, ◌≤◌, ◌<◌}
use native.Mathlib.Omega.{arith}
use borrow.Author.Tests.{le-ltb}
use lib.Dec.{ltb, eqb}
use lib.ListN.{length, take, drop}
use lib.Seq.{length-take-le}
use Rattle.lists.specs.Keep.{bit}
use Rattle.index.specs.Fit.{between}
use Rattle.index.specs.Form.{form_of, stages_at}
use Rattle.index.specs.File.{magic}
use Rattle.index.specs.Step.{first_of, when}
use Rattle.index.specs.Read.{little_endian, version_in, form_in, dim_in, header_in, head_fault}
use Rattle.index.proofs.Read.{number_cut}
use Rattle.listed.specs.Listing.{refusal_line, text_unless, listing_text}
use Rattle.listed.specs.Whole.{PartTells}
use Rattle.listed.proofs.Refusal.{long-refusal}

-- the head's refusal by its fields; `short`: the file has fewer than 24 bytes; `ended`: a width byte is missing
unfoldable fault_of : (short : Bool) → (name version dim field : ℕ) → (ended : Bool) → (width : ℕ) → ℕ
fault_of short name version dim field ended width =
    first_of
    (when short 14
    ∷ when (not (eqb name (little_endian 4 magic))) 15
    ∷ when (not (form_of version).known) 16
    ∷ when (ltb dim (cond (form_of version).working field 0)) 17
    ∷ when ended 14
    ∷ when (not (between 4 6 (cond (form_of version).width width 4))) 18
    ∷ [])

abbrev ends : (file : List ℕ) → Bool
ends file = ltb (length file) (stages_at (form_in file))

by-fields : (file : List ℕ) → head_fault file
    ≡ fault_of (ltb (length file) 24) (little_endian 4 file) (version_in file) (dim_in file) (little_endian 2 (drop 6 file)) (ends file) (little_endian 1 (drop 24 file))
unfolding head_fault header_in fault_of
by-fields file = refl

-- 25 bytes are a whole head
whole : (n : ℕ) (b : Bool) → 25 ≤ n → ltb n (24 + bit b) ≡ false
whole n true h = le-ltb n 25 h
whole n false h = le-ltb n 24 (omega arith)

head-cut : (file : List ℕ) (m : ℕ) → 25 ≤ m → m ≤ length file → head_fault (take m file) ≡ head_fault file
head-cut file m some more =
    let part = take m file in
    let long : length part ≡ m = length-take-le m file more in
    let short : ltb (length part) 24 ≡ ltb (length file) 24 = le-ltb (length part) 24 (omega arith) ∙ sym (le-ltb (length file) 24 (omega arith)) in
    let ended : ends part ≡ ends file =
    whole (length part) (form_in part).width (omega arith) ∙ sym (whole (length file) (form_in file).width (omega arith)) in
    let name = number_cut 4 0 m file (omega arith) in
    let version = number_cut 2 4 m file (omega arith) in
    let dim = number_cut 4 8 m file (omega arith) in
    let field = number_cut 2 6 m file (omega arith) in
    let width = number_cut 1 24 m file (omega arith) in
    by-fields part ∙ (λ i. fault_of (short i) (name i) (version i) (dim i) (field i) (ended i) (width i)) ∙ sym (by-fields file)

long-text : (file : List ℕ) → 65536 < length file → listing_text file ≡ refusal_line (first_of (head_fault file ∷ 20 ∷ []))
unfolding listing_text first_of
long-text file l = rw (long-refusal file l) (go (head_fault file))
  where
    go : (h : ℕ) → text_unless (first_of (h ∷ 20 ∷ [])) file ≡ refusal_line (first_of (h ∷ 20 ∷ []))
    go zero = refl
    go (suc n) = refl

pub part-tells : PartTells
part-tells file long =
    let more : 65536 < length (take 65537 file) = rw (length-take-le 65537 file (omega arith)) (omega arith) in
    long-text (take 65537 file) more ∙ ap (λ (h : ℕ). refusal_line (first_of (h ∷ 20 ∷ []))) (head-cut file 65537 (omega arith) (omega arith)) ∙ sym (long-text file long)
