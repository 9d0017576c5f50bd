-- Bytes put one after the other.
use Rattle.std.proofs.Common.{◌≡◌, refl, sym, ap, ◌∙◌, Bool, true, false, cond, List, [], ◌∷◌, ◌++◌, ℕ, zero, suc, ◌+◌, ◌≤◌, ◌<◌, arith, add-one, add-zero, length, take, drop, length-append}
use mathlib.Core.Logic.{⊎_elim}
use mathlib.Core.List.{append-nil}
use native.Mathlib.Nat.{eq-or-lt_of_le, le_of_suc-le-suc}
use lib.ListN.{get_or}
use lib.Seq.{length-sets, sets-eq}
use Rattle.lists.specs.Lists.{tab, joined}
use Rattle.lists.proofs.Laws.{tab-get_or}
use Rattle.lists.proofs.Writing.{Written, written-whole}
use Rattle.lists.proofs.Keep.{sets-append}
use Rattle.index.proofs.Blocks.{joined-append}
use Rattle.write.specs.declared.Writer.{Writer}
use Rattle.write.specs.Put.{Room, Put}
use Rattle.write.specs.Pieces.{in_order}

-- ---- pieces

pub put-none : (w : Writer) → Put [] w w
put-none w = record { after = sym (add-zero w.at); written = refl; same = refl; same_file = refl }

module _ {ys : List ℕ} {old mid : Writer} (p : Put ys old mid) where
  pub put-room : (zs : List ℕ) → Room (ys ++ zs) old → Room zs mid
  put-room zs h = omega (arith, length-append ys zs)

  pub put-more : {zs : List ℕ} {new : Writer} → Put zs mid new → Put (ys ++ zs) old new
  put-more {zs} {new} q =
      record {
        after = omega (arith, length-append ys zs);
        written = q.written ∙ rw (p.written, p.after) (sym (sets-append old.file.now old.at ys zs));
        same = q.same ∙ p.same;
        same_file = q.same_file ∙ p.same_file;
      }

-- a copy, byte by byte
pub copied-whole : (bytes old : List ℕ) → length old ≡ length bytes → {i : ℕ} {xs : List ℕ} → Written (λ j. get_or bytes j 0) (length old) i old xs → length old ≤ i → xs ≡ bytes
copied-whole bytes old e {i} {xs} m l = written-whole _ old {i = i} {xs = xs} m l ∙ rw e (tab-get_or bytes 0)

-- a copy between what stands before it and after
pub put-copied : (bytes : List ℕ) (old : Writer) {new : Writer} → Room bytes old → new.at ≡ old.at + length bytes
    → new.file.now ≡ take old.at old.file.now ++ bytes ++ drop (old.at + length bytes) old.file.now → new.file.ghost_name ≡ old.file.ghost_name → Put bytes old new
put-copied bytes old h a e f =
    let w = e ∙ sym (sets-eq bytes old.file.now old.at h) in
    record { after = a; written = w; same = ap length w ∙ length-sets old.file.now old.at bytes; same_file = f }

-- what is long enough for all is long enough for the first
pub room-first : (ys zs : List ℕ) (w : Writer) → Room (ys ++ zs) w → Room ys w
room-first ys zs w h = omega (arith, length-append ys zs)

-- ---- the pieces of the slots, one after the other

pub order-more : (f : ℕ → List ℕ) (i : ℕ) → in_order f (suc i) ≡ in_order f i ++ f i
unfolding joined
order-more f i = joined-append (tab f i) (f i ∷ []) ∙ ap (λ (r : List ℕ). joined (tab f i) ++ r) (append-nil (f i))

order-grows : (f : ℕ → List ℕ) (i n : ℕ) → i ≤ n → length (in_order f i) ≤ length (in_order f n)
order-grows f i zero l = let e : i ≡ 0 = omega arith in rw e (omega arith)
order-grows f i (suc n) l =
    ⊎_elim
    (λ (e : i ≡ suc n). rw e (omega arith))
    (λ (m : i < suc n). omega (arith, order-grows f i n (le_of_suc-le-suc m), ap length (order-more f n), length-append (in_order f n) (f n)))
    (eq-or-lt_of_le l)

pub order-none : (f : ℕ → List ℕ) (w : Writer) → Put (in_order f 0) w w
unfolding joined
order-none f w = put-none w

module _ (f : ℕ → List ℕ) {start mid : Writer} (i : ℕ) (p : Put (in_order f i) start mid) where
  pub order-room : (n : ℕ) → Room (in_order f n) start → i < n → Room (f i) mid
  order-room n h l = put-room p (f i) (omega (arith, ap length (order-more f i), order-grows f (suc i) n l))

  pub order-put : {new : Writer} → Put (f i) mid new → Put (in_order f (i + 1)) start new
  order-put q = rw (add-one i, order-more f i) (put-more p q)

-- ---- a piece that is written under a test

module _ (b : Bool) (bytes : List ℕ) where
  pub piece-room : (w : Writer) → b ≡ true → Room (cond b bytes []) w → Room bytes w
  piece-room w e h = rw e at h

  pub piece-put : {old new : Writer} → b ≡ true → Put bytes old new → Put (cond b bytes []) old new
  piece-put e p = rw e p

  pub piece-none : {w : Writer} → b ≡ false → Put (cond b bytes []) w w
  piece-none {w} e = rw e (put-none w)
