-- Files without years: what they are, and what is read of them.
use mathlib.Core.Path.{◌≡◌, refl, sym, ap, ◌∙◌, subst}
use mathlib.Core.Bool.{Bool, true, false, not, cond}
use mathlib.Core.List.{List, [], ◌++◌, map, append-nil}
use Prim.Native.Nat.{ℕ, ◌+◌, ◌*◌, ◌≤◌}
use native.Mathlib.Nat.{add-zero}
use native.Mathlib.Omega.{arith}
use lib.ListN.{length, drop}
use lib.Dec.{eqb}
use borrow.Author.Tests.{lt-leb}
use Rattle.lists.specs.Lists.{tab, joined}
use Rattle.lists.specs.Keep.{Each}
use Rattle.lists.proofs.Front.{each_map, map_each, each-tab}
use Rattle.encode.specs.declared.Header.{Header}
use Rattle.index.specs.Form.{form_of}
use Rattle.index.specs.File.{Entry, le_bytes, plain_version, no_duty, version_with, version_of, width_byte, head_bytes, stage_bytes, second_stages, key_entries, year_bytes, file_of}
use Rattle.index.specs.Read.{little_endian, version_in, count_in, years_in, year_in, slot_in, slots_in}
use Rattle.compact.proofs.Rising.{rising-map}
use Rattle.round_trip.specs.Plain.{plain_file, WrittenAsBefore, OlderReadAsYear1}

-- ---- written

no_years : (h : Header) → (form_of (plain_version h)).years ≡ false
unfolding form_of
no_years h = go h.residual (eqb h.bits 4)
  where
    go : (b c : Bool) → (form_of (cond b 260 (cond c 259 261))).years ≡ false
    go true c = refl
    go false true = refl
    go false false = refl

module _ (h : Header) (es : List Entry) where
  abbrev file_in : (version : ℕ) → List ℕ
  file_in v =
      head_bytes v h (length es) ++ width_byte v h ++ stage_bytes (map (λ e. e.code.first) es) ++ stage_bytes (second_stages es)
      ++ le_bytes 4 (length (key_entries 0 es)) ++ joined (key_entries 0 es) ++ year_bytes v es

  as-before : no_duty es ≡ true → file_of h es ≡ plain_file h es
  unfolding plain_file file_of version_of
  as-before e =
      ap file_in (ap (λ (b : Bool). version_with h (not b)) e ∙ add-zero (plain_version h))
      ∙ ap (λ (b : Bool). plain_file h es ++ cond b (joined (map (λ e. le_bytes 2 e.year) es)) []) (no_years h) ∙ append-nil (plain_file h es)

pub written-as-before : WrittenAsBefore
written-as-before = as-before

-- ---- read

older-form : (v : ℕ) → v ≤ 261 → (form_of v).years ≡ false
unfolding form_of
older-form v l = lt-leb 262 v (omega arith)

pub older-read-as-year-1 : OlderReadAsYear1
unfolding slots_in slot_in
older-read-as-year-1 file l =
    let loose = tab (slot_in file) (count_in file) in
    let year_is : (i : ℕ) → year_in file i ≡ 1 = λ i. ap (λ (b : Bool). cond b (little_endian 2 (drop (i * 2) (years_in file))) 1) (older-form (version_in file) l) in
    map_each (λ y. y ≡ 1) (λ s. s.year) (slots_in file)
    (subst (Each (λ y. y ≡ 1)) (sym (rising-map (λ s. s.year) (λ k p q s. refl) (λ k. 0) loose))
    (each_map (λ y. y ≡ 1) (λ s. s.year) loose (each-tab (λ s. s.year ≡ 1) (slot_in file) (count_in file) (λ i m. year_is i))))
