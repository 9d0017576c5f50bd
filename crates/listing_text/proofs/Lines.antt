-- The lines of a listing, put one piece after the other.
use mathlib.Core.Path.{◌≡◌, ◌∙◌}
use mathlib.Core.Bool.{Bool, true, false}
use mathlib.Core.List.{List, [], ◌∷◌, append-nil}
use Prim.Native.Nat.{ℕ, ◌+◌, ◌≤◌, ◌<◌}
use native.Mathlib.Nat.{le_antisymm}
use native.Mathlib.Numerals.{add-one}
use native.Mathlib.Omega.{arith}
use lib.ListN.{get_or}
use Rattle.lists.specs.Lists.{tab, joined}
use Rattle.print.specs.declared.Printer.{Printer}
use Rattle.print.specs.Printer.{Printed}
use Rattle.print.proofs.Places.{put_none, put_then}
use Rattle.numerals.specs.Numerals.{decimal_text}
use Rattle.slot_keys.specs.Has.{key_at}
use Rattle.encode.specs.declared.Header.{Header}
use Rattle.index.proofs.Blocks.{joined-append}
use Rattle.listed.specs.Listing.{head_line, key_text}

-- ---- pieces

pub put-head : (v v' : ℕ) (h h' : Header) (n n' : ℕ) {old new : Printer} → v ≡ v' → h ≡ h' → n ≡ n' → Printed (head_line v h n) old new → Printed (head_line v' h' n') old new
put-head v v' h h' n n' e f g p = rw (e, f, g) at p

module _ (keys : List ℕ) (keyed : List Bool) (slot : ℕ) {old new : Printer} where
  pub put-keyed : (k : ℕ) → get_or keyed slot false ≡ true → k ≡ get_or keys slot 0 → Printed (decimal_text k) old new → Printed (key_text (key_at keys keyed slot)) old new
  unfolding key_at
  put-keyed k on e p = rw (on, ← e) p

  pub put-unkeyed : get_or keyed slot false ≡ false → Printed (45 ∷ []) old new → Printed (key_text (key_at keys keyed slot)) old new
  unfolding key_at
  put-unkeyed off p = rw off p

-- ---- a line for each of n slots

module _ (line : ℕ → List ℕ) (n : ℕ) where
  -- the first i are put
  pub record Lines (i : ℕ) (old new : Printer) : Type 0 where
    pub some : i ≤ n
    pub put : Printed (joined (tab line i)) old new

  pub lines_none : (p : Printer) → Lines 0 p p
  unfolding joined
  lines_none p = record { some = omega arith; put = put_none p }

  pub lines_more : (i : ℕ) {t : List ℕ} {old mid new : Printer} → i < n → t ≡ line i → Lines i old mid → Printed t mid new → Lines (i + 1) old new
  unfolding joined
  lines_more i h e p q =
      record {
        some = omega arith;
        put = rw (add-one i, joined-append (tab line i) (line i ∷ []), append-nil (line i)) (put_then p.put (rw e at q));
      }

  pub lines-all : (m i : ℕ) {old new : Printer} → n ≡ m → n ≤ i → Lines i old new → Printed (joined (tab line m)) old new
  lines-all m i e h p = rw (le_antisymm p.some h ∙ e) at p.put
