-- One more slot of the loop that relabels: a slot has its key still when its turn comes.
use mathlib.Core.Path.{◌≡◌, sym, ap, subst, ◌∙◌}
use mathlib.Core.Bool.{Bool, true, false, cond, ◌&&◌}
use mathlib.Core.List.{List}
use Prim.Native.Nat.{ℕ, ◌+◌, ◌≤◌, ◌<◌}
use native.Mathlib.Omega.{arith}
use lib.ListN.{length, get_or, set, take}
use lib.Seq.{get_or-take, length-take-le}
use lib.Dec.{eqb}
use Rattle.lists.specs.Lists.{tab}
use Rattle.lists.proofs.Laws.{length-tab}
use Rattle.lists.proofs.Front.{get_or-rest}
use Rattle.lists.proofs.Writing.{Written, written-more}
use Rattle.slot_keys.specs.Has.{slot_has}

-- the key of a slot after relabelling
abbrev pub key_after : (ks : List ℕ) (on : List Bool) (old new : ℕ) → ℕ → ℕ
key_after ks on old new i = cond (slot_has ks on old i) new (get_or ks i 0)

module _ (ks : List ℕ) (on : List Bool) (old new n : ℕ) (room : n ≤ length ks) where
  abbrev Done : ℕ → List ℕ → Type 0
  Done i now = Written (key_after ks on old new) (length (take n ks)) i (take n ks) now

  module _ {i : ℕ} {now : List ℕ} (w : Done i now) (l : i < length (take n ks)) where
    still : get_or now i 0 ≡ get_or ks i 0
    still =
        ap (λ ys. get_or ys i 0) w.written
        ∙ get_or-rest (tab (key_after ks on old new) i) (take n ks) i 0 (rw (length-tab (key_after ks on old new) i) (omega arith))
        ∙ get_or-take n ks i 0 (omega (arith, length-take-le n ks room))

    has : slot_has now on old i ≡ slot_has ks on old i
    has = ap (λ k. get_or on i false && eqb k old) still

    more : Done (i + 1) (set now i (key_after ks on old new i))
    more = written-more (key_after ks on old new) (length (take n ks)) (take n ks) (omega arith) w l

    pub key-changed : slot_has now on old i ≡ true → Done (i + 1) (set now i new)
    key-changed e = subst (λ k. Done (i + 1) (set now i k)) (ap (λ b. cond b new (get_or ks i 0)) (sym has ∙ e)) more

    pub key-kept : slot_has now on old i ≡ false → Done (i + 1) (set now i (get_or now i 0))
    key-kept e = subst (λ k. Done (i + 1) (set now i k)) (ap (λ b. cond b new (get_or ks i 0)) (sym has ∙ e) ∙ sym still) more
