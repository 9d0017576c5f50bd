-- Slots are gathered in slot order.
use mathlib.Core.Path.{◌≡◌, ap, ◌∙◌}
use mathlib.Core.List.{List, [], ◌∷◌, ◌++◌, map-append, append-nil}
use Prim.Native.Nat.{ℕ, ◌+◌, ◌-◌, ◌≤◌, ◌<◌}
use native.Mathlib.Nat.{zero-add}
use native.Mathlib.Omega.{arith}
use lib.ListN.{length, get_or, set, length-append}
use lib.Seq.{slice, slice_empty, sets, length-sets}
use lib.Dec.{ltb}
use borrow.Author.Tests.{lt-ltb, le-ltb}
use Rattle.lists.specs.Keep.{keep, numbered}
use Rattle.lists.proofs.Keep.{keep_append, length-numbered, get_d_numbered, slice-split, slice-one, sets-append, sets-all}
use Rattle.choose_slots.specs.Steps.{picked, picked_around}

module _ (low : ℕ) (orders : List ℕ) where
  pub picked-split : (f i t : ℕ) → f ≤ i → i ≤ t → t ≤ length orders → picked low f t orders ≡ picked low f i orders ++ picked low i t orders
  picked-split f i t h k l =
      rw (slice-split f i t (numbered 0 orders) h k (rw (length-numbered 0 orders) l), keep_append (λ (e : ℕ × ℕ). ltb low e.1) (slice f i (numbered 0 orders)) (slice i t (numbered 0 orders)))
      (map-append (λ (e : ℕ × ℕ). e.0) (keep (λ e. ltb low e.1) (slice f i (numbered 0 orders))) (keep (λ e. ltb low e.1) (slice i t (numbered 0 orders))))

  slot : (i : ℕ) → i < length orders → slice i (i + 1) (numbered 0 orders) ≡ (i, get_or orders i 0) ∷ []
  slot i h = slice-one i (numbered 0 orders) (0, 0) (rw (length-numbered 0 orders) h) ∙ rw (get_d_numbered 0 orders i (0, 0) h, zero-add i)

  pub picked-here : (i : ℕ) → i < length orders → low < get_or orders i 0 → picked low i (i + 1) orders ≡ i ∷ []
  picked-here i h l = rw (slot i h, lt-ltb low (get_or orders i 0) l)

  pub picked-not : (i : ℕ) → i < length orders → get_or orders i 0 ≤ low → picked low i (i + 1) orders ≡ []
  picked-not i h l = rw (slot i h, le-ltb low (get_or orders i 0) l)

-- what a loop has gathered that has passed the slots from f up to i
pub record Gathered (orders : List ℕ) (low f at : ℕ) (places slots : List ℕ) (n i : ℕ) : Type 0 where
  pub past : f ≤ i
  pub within : i ≤ length orders
  pub many : n ≡ at + length (picked low f i orders)
  pub written : slots ≡ sets places at (picked low f i orders)

pub gathered_none : (orders : List ℕ) (low f at : ℕ) (places : List ℕ) → f ≤ length orders → Gathered orders low f at places places at f
gathered_none orders low f at places h = record { past = omega arith; within = h; many = rw (slice_empty f (numbered 0 orders)) (omega arith); written = rw (slice_empty f (numbered 0 orders)) }

module _ {orders : List ℕ} {low f at : ℕ} {places slots : List ℕ} {n i : ℕ} (g : Gathered orders low f at places slots n i) where
  pub gathered-length : length slots ≡ length places
  gathered-length = ap length g.written ∙ length-sets places at (picked low f i orders)

  module _ (here : i < length orders) where
    next : picked low f (i + 1) orders ≡ picked low f i orders ++ picked low i (i + 1) orders
    next = picked-split low orders f i (i + 1) g.past (omega arith) (omega arith)

    pub gathered-same : get_or orders i 0 ≤ low → Gathered orders low f at places slots n (i + 1)
    gathered-same h =
        let e : picked low f (i + 1) orders ≡ picked low f i orders = next ∙ rw (picked-not low orders i here h) (append-nil (picked low f i orders)) in
        record { past = omega (arith, g.past); within = omega arith; many = rw e g.many; written = rw e g.written }

    module _ (h : low < get_or orders i 0) where
      more : picked low f (i + 1) orders ≡ picked low f i orders ++ (i ∷ [])
      more = next ∙ ap (λ (r : List ℕ). picked low f i orders ++ r) (picked-here low orders i here h)

      pub gathered-more : Gathered orders low f at places (set slots n i) (n + 1) (i + 1)
      gathered-more =
          record {
            past = omega (arith, g.past);
            within = omega arith;
            many = omega (arith, g.many, simp length-append at (ap length more));
            written = rw (more, sets-append places at (picked low f i orders) (i ∷ []), ← g.many, ← g.written);
          }

      pub gathered-room : (t : ℕ) → i < t → t ≤ length orders → at + length (picked low f t orders) ≤ length places → n < length slots
      gathered-room t k l room =
          omega (arith, g.many, gathered-length, simp length-append at (ap length more), simp length-append at (ap length (picked-split low orders f (i + 1) t (omega (arith, g.past)) (omega arith) l)))

-- ---- three runs that fill all places

pub gathered-parts : (t b e : ℕ) (orders : List ℕ) →
    length (picked_around t b e orders) ≡ length (picked t 0 b orders) + (length (picked (t - 1) b e orders) + length (picked t e (length orders) orders))
unfolding picked_around
gathered-parts t b e orders = simp length-append

pub three-runs : (places ps qs rs : List ℕ) {one two three : List ℕ} {a b : ℕ} → length (ps ++ (qs ++ rs)) ≡ length places → one ≡ sets places 0 ps → a ≡ 0 + length ps → two ≡ sets one a qs → b ≡ a + length qs → three ≡ sets two b rs → three ≡ ps ++ (qs ++ rs)
three-runs places ps qs rs {one} {two} {three} {a} {b} all e₁ a₁ e₂ b₂ e₃ =
    rw (e₃, e₂, e₁, b₂, a₁, ← sets-append (sets places 0 ps) (0 + length ps) qs rs, ← sets-append places 0 ps (qs ++ rs)) (sets-all places (ps ++ (qs ++ rs)) all)
