-- One more slot of the loop that removes: a slot has its key still when its turn comes.
use mathlib.Core.Path.{◌≡◌, refl, sym, ap, ◌∙◌}
use mathlib.Core.Bool.{Bool, true, false, cond, ◌&&◌}
use mathlib.Core.List.{List}
use Prim.Native.Nat.{ℕ, ◌+◌, ◌≤◌, ◌<◌}
use native.Mathlib.Omega.{arith}
use lib.ListN.{length, get_or, set}
use lib.Dec.{eqb}
use Rattle.slot_keys.specs.Has.{slot_has}
use Rattle.remarking.specs.Replaced.{replaced_where}
use Rattle.removal.specs.Dead.{SlotMarks, dead_at, dead_where}
use Rattle.remarking.proofs.Replaced.{replaced-none, replaced-length, replaced-later, replaced-next}

-- each array has the first n slots
pub record Reach (n : ℕ) (a : SlotMarks) : Type 0 where
  pub keyed : n ≤ length a.keyed
  pub held : n ≤ length a.held
  pub alive : n ≤ length a.alive

pub record SameReach (a b : SlotMarks) : Type 0 where
  pub keyed : length b.keyed ≡ length a.keyed
  pub held : length b.held ≡ length a.held
  pub alive : length b.alive ≡ length a.alive

module _ (p : ℕ → Bool) (a : SlotMarks) where
  pub dead-none : a ≡ dead_where p 0 a
  unfolding dead_where
  dead-none =
      sym (λ j. record { keyed = replaced-none p false false a.keyed j; held = replaced-none p 0 0 a.held j; alive = replaced-none p 0 0 a.alive j })

  pub dead-lengths : (i : ℕ) (b : SlotMarks) → Reach i a → b ≡ dead_where p i a → SameReach a b
  unfolding dead_where
  dead-lengths i b r e =
      record {
        keyed = ap (λ (w : SlotMarks). length w.keyed) e ∙ replaced-length p false false a.keyed i r.keyed;
        held = ap (λ (w : SlotMarks). length w.held) e ∙ replaced-length p 0 0 a.held i r.held;
        alive = ap (λ (w : SlotMarks). length w.alive) e ∙ replaced-length p 0 0 a.alive i r.alive;
      }

part-cond : {B : Type 0} (g : SlotMarks → B) (b : Bool) (u v : SlotMarks) → g (cond b u v) ≡ cond b (g u) (g v)
part-cond g true u v = refl
part-cond g false u v = refl

pub remove-next : (ks : List ℕ) (key i : ℕ) (a b c : SlotMarks) → Reach (i + 1) a → b ≡ dead_where (slot_has ks a.keyed key) i a →
    c ≡ cond (slot_has ks b.keyed key i) (dead_at i b) b → c ≡ dead_where (slot_has ks a.keyed key) (i + 1) a
unfolding dead_where dead_at
remove-next ks key i a b c r e h =
    h ∙ (λ j. record {
      keyed = part (λ w. w.keyed) false false (omega (arith, r.keyed)) (ap (λ (w : SlotMarks). w.keyed) e) refl j;
      held = part (λ w. w.held) 0 0 (omega (arith, r.held)) (ap (λ (w : SlotMarks). w.held) e) refl j;
      alive = part (λ w. w.alive) 0 0 (omega (arith, r.alive)) (ap (λ (w : SlotMarks). w.alive) e) refl j;
    })
  where
    p : ℕ → Bool
    p = slot_has ks a.keyed key

    has : Bool
    has = slot_has ks b.keyed key i

    same : has ≡ p i
    same =
        ap (λ (on : Bool). on && eqb (get_or ks i 0) key)
        (ap (λ (w : SlotMarks). get_or w.keyed i false) e ∙ replaced-later p false false a.keyed i (omega (arith, r.keyed)) i (omega arith))

    part : {B : Type 0} (g : SlotMarks → List B) (x d : B) → i < length (g a) → g b ≡ replaced_where p i x d (g a) → g (dead_at i b) ≡ set (g b) i x →
        g (cond has (dead_at i b) b) ≡ replaced_where p (i + 1) x d (g a)
    part g x d l f h = part-cond g has (dead_at i b) b ∙ ap (λ ys. cond has ys (g b)) h ∙ replaced-next p x d (g a) i (g b) has l f same
