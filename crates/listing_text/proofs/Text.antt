-- The whole text, by what the file is refused for.
use mathlib.Core.Path.{◌≡◌, sym, ap, ◌∙◌}
use mathlib.Core.Bool.{Bool}
use mathlib.Core.List.{List, [], ◌∷◌}
use mathlib.Core.Option.{Option}
use Prim.Native.Nat.{ℕ, zero, suc, ◌≤◌, ◌<◌}
use lib.ListN.{length}
use Rattle.lists.specs.Lists.{joined}
use Rattle.lists.proofs.Laws.{tab-ext}
use Rattle.print.specs.declared.Printer.{Printer}
use Rattle.print.specs.Printer.{Printed}
use Rattle.print.proofs.Places.{put_then}
use Rattle.slot_keys.specs.Has.{key_at}
use Rattle.index.specs.Step.{first_of}
use Rattle.index.specs.Read.{version_in, count_in, header_in, head_fault, key_from, entries_in, read_refusal}
use Rattle.listed.specs.Listing.{room, listing_refusal, head_line, slot_line, refusal_line, half_in, lines_of, text_unless, listing_text}
use Rattle.listed.proofs.Refusal.{short-refusal, long-refusal, some_number}

module _ (file : List ℕ) {old : Printer} where
  pub put_refused : (m n : ℕ) {new : Printer} → n ≡ m → (n ≡ 0 → ⊥) → Printed (refusal_line n) old new → Printed (text_unless m file) old new
  put_refused m n {new} e some p = go m e
    where
      go : (m : ℕ) → n ≡ m → Printed (text_unless m file) old new
      go zero e = absurd (some e)
      go (suc m) e = rw e at p

  -- a line for each slot, with the keys that the entries give
  pub put-accepted : (keys : List ℕ) (keyed : List Bool) (m : ℕ) {mid new : Printer} → 0 ≡ m → ((i : ℕ) → i < count_in file → key_at keys keyed i ≡ key_from (entries_in file) i)
      → Printed (head_line (version_in file) (header_in file) (count_in file)) old mid → Printed (lines_of file (key_at keys keyed)) mid new → Printed (text_unless m file) old new
  put-accepted keys keyed m e same p q =
      let keys_of : ℕ → Option ℕ = key_from (entries_in file) in
      let lines : lines_of file (key_at keys keyed) ≡ lines_of file keys_of =
      ap joined (tab-ext (λ i. slot_line i (key_at keys keyed i) (half_in file i)) (λ i. slot_line i (keys_of i) (half_in file i)) (count_in file) (λ i l. ap (λ (k : Option ℕ). slot_line i k (half_in file i)) (same i l))) in
      rw (sym e) (put_then p (rw lines at q))

  pub put-short : {new : Printer} → length file ≤ 65536 → Printed (text_unless (read_refusal file room) file) old new → Printed (listing_text file) old new
  unfolding listing_text
  put-short l p = rw (short-refusal file l) p

  pub put-long : (n : ℕ) {new : Printer} → 65536 < length file → n ≡ first_of (head_fault file ∷ 20 ∷ []) → Printed (refusal_line n) old new → Printed (listing_text file) old new
  unfolding listing_text
  put-long n l e p = put_refused (listing_refusal file) n (e ∙ sym (long-refusal file l)) (λ z. some_number (head_fault file) (sym e ∙ z)) p
