-- The capacity: the least of the rooms, as the program takes it, one after the other.
use mathlib.Core.Path.{◌≡◌, refl, sym, ap, ◌∙◌}
use mathlib.Core.Bool.{Bool, true, false, cond}
use mathlib.Core.List.{[], ◌∷◌}
use Prim.Native.Nat.{ℕ, ◌/◌, ◌≤◌, min}
use native.Mathlib.Nat.{div-zero}
use native.Mathlib.Omega.{arith}
use lib.ListN.{length}
use Rattle.codes.specs.Writing.{is_width, at_width}
use Rattle.encode.specs.declared.Header.{Header}
use Rattle.encode.specs.Header.{block_size}
use Rattle.index.specs.Arrays.{Arrays}
use Rattle.index.specs.State.{rooms, least, capacity}
use Rattle.room.proofs.Least.{least-low, least-none}

-- what is held by the arrays that every index has, but for the live marks
abbrev held_rooms : Arrays → (bytes : ℕ) → ℕ
held_rooms a bytes =
    min (min (min (min (min 65536 (length a.codes / bytes)) (length a.scales)) (length a.keys)) (length a.keyed)) (length a.held)

-- and with them and the years: of the words' marks, `capacity` counts 65,536 at most
abbrev pub common_rooms : Arrays → (bytes : ℕ) → ℕ
common_rooms a bytes = min (min (held_rooms a bytes) (min 65536 (length a.alive))) (length a.years)

-- which changes nothing, since no more are left by then
capped : (m n : ℕ) → m ≤ 65536 → min m n ≡ min m (min 65536 n)
capped m n l = omega arith

marks-capped : (a : Arrays) (bytes : ℕ) → min (min (held_rooms a bytes) (length a.alive)) (length a.years) ≡ common_rooms a bytes
unfolding least
marks-capped a bytes =
    ap (λ (m : ℕ). min m (length a.years))
    (capped (held_rooms a bytes) (length a.alive)
    (least-low 65536 (length a.codes / bytes ∷ length a.scales ∷ length a.keys ∷ length a.keyed ∷ length a.held ∷ [])))

module _ (h : Header) (a : Arrays) (bytes : ℕ) (is : bytes ≡ at_width h.bits (block_size h)) where
  -- no byte for a slot: no width that a code has, or no room
  pub capacity-none : bytes ≡ 0 → at_width h.bits (capacity h a) ≡ 0
  unfolding at_width rooms
  capacity-none z = go (is_width h.bits) refl
    where
      none : block_size h ≡ 0 → capacity h a ≡ 0
      none e = least-none _ _ _ (ap (λ b. length a.codes / b) e ∙ div-zero (length a.codes))

      go : (b : Bool) → is_width h.bits ≡ b → cond b (capacity h a) 0 ≡ 0
      go true e = none (sym (is ∙ ap (λ b. cond b (block_size h) 0) e) ∙ z)
      go false e = refl

  module _ (some : bytes ≡ 0 → ⊥) where
    width : is_width h.bits ≡ true
    unfolding at_width
    width = go (is_width h.bits) refl
      where
        go : (b : Bool) → is_width h.bits ≡ b → b ≡ true
        go true e = refl
        go false e = absurd (some (is ∙ ap (λ b. cond b (block_size h) 0) e))

    block : block_size h ≡ bytes
    unfolding at_width
    block = sym (is ∙ ap (λ b. cond b (block_size h) 0) width)

    pub capacity-plain : h.residual ≡ false → at_width h.bits (capacity h a) ≡ common_rooms a bytes
    unfolding at_width rooms least
    capacity-plain e = rw (width, block, e) (marks-capped a bytes)

    pub capacity-residual : h.residual ≡ true → at_width h.bits (capacity h a) ≡ min (min (common_rooms a bytes) (length a.codes2 / bytes)) (length a.scales2)
    unfolding at_width rooms least
    capacity-residual e = rw (width, block, e) (ap (λ (m : ℕ). min (min m (length a.codes2 / bytes)) (length a.scales2)) (marks-capped a bytes))
