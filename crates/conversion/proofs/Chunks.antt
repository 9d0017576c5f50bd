-- Chunks one after the other make the converted file.
use mathlib.Core.Path.{◌≡◌, refl, sym, ap, ap₂, ◌∙◌}
use mathlib.Core.List.{List, [], ◌∷◌, ◌++◌, map}
use Prim.Native.Nat.{ℕ, ◌+◌}
use Rattle.lists.specs.Lists.{joined, total}
use Rattle.lists.specs.Keep.{Each}
use Rattle.conversion.specs.Scales.{scales_in, halves_of, changes_in}
use Rattle.conversion.specs.Converted.{changed_scales, new_head, converted, no_keys, Whole, ConvertsInChunks}
use Rattle.conversion.proofs.Scales.{halves-append, changes-append}

halves-joined : (cs : List (List ℕ)) → Each Whole cs → joined (map halves_of cs) ≡ halves_of (joined cs)
unfolding joined scales_in
halves-joined [] w = refl
halves-joined (c ∷ cs) w = ap (λ (bs : List ℕ). halves_of c ++ bs) (halves-joined cs w.1) ∙ sym (halves-append c (joined cs) w.0)

changes-joined : (cs : List (List ℕ)) → Each Whole cs → total (map changes_in cs) ≡ changes_in (joined cs)
unfolding joined scales_in
changes-joined [] w = refl
changes-joined (c ∷ cs) w = ap (λ (n : ℕ). changes_in c + n) (changes-joined cs w.1) ∙ sym (changes-append c (joined cs) w.0)

pub converts-in-chunks : ConvertsInChunks
unfolding converted changed_scales
converts-in-chunks file scales codes w s c =
    record {
      bytes = ap₂ (λ (hs bs : List ℕ). new_head file ++ hs ++ bs ++ no_keys) (halves-joined scales w ∙ ap halves_of s) c;
      count = changes-joined scales w ∙ ap changes_in s;
    }
