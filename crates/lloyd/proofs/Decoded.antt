-- The centroids that codes stand for: one for each code, which is the code of its centroid.
use mathlib.Core.Path.{◌≡◌, refl, sym, ap, ◌∙◌}
use mathlib.Core.Bool.{Bool, true, false}
use mathlib.Core.List.{List}
use Prim.Native.Nat.{ℕ, zero, suc, ◌≤◌, ◌<◌}
use native.Mathlib.Nat.{le_antisymm}
use native.Mathlib.Numerals.{add-one}
use native.Mathlib.Omega.{arith}
use native.Mathlib.Decide.{dec_lt}
use lib.ListN.{length, get_or, length-map, get_or-map}
use lib.Ieee.{Float, nan, lt}
use Rattle.pattern.specs.Binary32.{+0}
use Rattle.lists.proofs.Laws.{get_d_default}
use Rattle.lloyd.specs.Quantizer.{quantized, centroid_at, decoded}
use Rattle.lloyd.specs.Sound.{SoundTables}
use Rattle.lloyd.proofs.Order.{lt_trans, none-below-itself}
use Rattle.lloyd.proofs.Quantized.{quantized-le, more-than, at-most}

module _ (centroids : List Float) (codes : List ℕ) where
  pub length-decoded : length (decoded centroids codes) ≡ length codes
  unfolding decoded
  length-decoded = length-map codes (centroid_at centroids)

  pub get_or-decoded : (i : ℕ) → get_or (decoded centroids codes) i (centroid_at centroids 0) ≡ centroid_at centroids (get_or codes i 0)
  unfolding decoded
  get_or-decoded i = get_or-map (centroid_at centroids) codes i 0

-- by the rule of the tables: of the boundaries those before a centroid's own are below it, and no other
module _ (bs cs : List Float) (sound : SoundTables bs cs) where
  not-above : (x y : Float) → lt x y ≡ true → lt y x ≡ false
  not-above x y h = go (lt y x) refl
    where
      go : (t : Bool) → lt y x ≡ t → lt y x ≡ false
      go true e = e ∙ sym (lt_trans x y x h e) ∙ none-below-itself x
      go false e = e

  least : (c : ℕ) → c < length cs → c ≤ quantized bs (get_or cs c nan)
  least zero h = omega arith
  least (suc c) h =
      let l : c < length bs = omega (arith, sound.count) in
      more-than bs sound.boundaries-rise (get_or cs (suc c) nan) c l (rw add-one at (sound.below-the-next c l))

  most : (c : ℕ) → c < length cs → quantized bs (get_or cs c nan) ≤ c
  most c h =
      elim (dec_lt c (length bs)) [
        | yes l ↦ at-most bs sound.boundaries-rise (get_or cs c nan) c l (not-above (get_or cs c nan) (get_or bs c nan) (sound.above-its-centroid c l))
        | no l ↦ omega (arith, sound.count, quantized-le bs (get_or cs c nan))
      ]

  pub own_code : (c : ℕ) → c < length cs → quantized bs (centroid_at cs c) ≡ c
  own_code c h = ap (quantized bs) (get_d_default cs c +0 nan h) ∙ le_antisymm (most c h) (least c h)
