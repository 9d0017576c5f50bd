-- Scales that are read and passed on chunk by chunk. `a`, `b` and `c` are what a reader has left, and `d`, `e` and `f` what a writer holds, one after the other.
use Rattle.std.proofs.Common.{◌≡◌, ℕ, ◌+◌, ◌*◌, ◌/◌, ◌≤◌, List, length, take, drop, Option, None, Some, IfSome, refl, sym, ap, subst, ◌∙◌, min, arith}
use Rattle.std.proofs.lemmas.List.{take_all, drop-drop, length-drop}
use Rattle.std.specs.Io.KnownBytes.{Appends}
use Rattle.std.proofs.KnownBytes.{Appends-trans, Appends-nil}
use native.Mathlib.Nat.{add-mul}
use Rattle.lists.specs.Lists.{over, joined}
use Rattle.lists.proofs.Laws.{over-all}
use Rattle.streams.specs.Streams.{Filled}
use Rattle.conversion.specs.Scales.{scales_in, halves_of, changes_in, with_room}
use Rattle.conversion.specs.Converted.{Whole}
use Rattle.conversion.specs.Stream.{HalvesPassed, ScalesPassed}
use Rattle.conversion.proofs.Scales.{halves-more, changes-more, changes-few, halves-long}

-- n scales, and then k more
pub narrowed_then : (a b c d e f : Option (List ℕ)) (n k m changed more : ℕ) → m ≡ n + k → IfSome a (λ xs. HalvesPassed n changed xs b d e) → IfSome b (λ ys. HalvesPassed k more ys c e f)
    → IfSome a (λ xs. HalvesPassed m (changed + more) xs c d f)
narrowed_then None b c d e f n k m changed more sum first second = tt
narrowed_then (Some xs) b c d e f n k m changed more sum first second =
    let next : HalvesPassed k more (drop (n * 4) xs) c e f = subst (λ (o : Option (List ℕ)). IfSome o (λ ys. HalvesPassed k more ys c e f)) first.rest second in
    let times : (n + k) * 4 ≡ n * 4 + k * 4 = add-mul n k 4 in
    rw sum (record {
      enough = omega (arith, first.enough, next.enough, length-drop (n * 4) xs);
      count = omega (arith, first.count, next.count, changes-more n k xs first.enough);
      rest = next.rest ∙ ap Some (drop-drop (k * 4) (n * 4) xs ∙ ap (λ j. drop j xs) (sym times));
      sent = subst (Appends d f) (sym (halves-more n k xs first.enough)) (Appends-trans d e f (halves_of (take (n * 4) xs)) (halves_of (take (k * 4) (drop (n * 4) xs))) first.sent next.sent);
    })

-- what is answered of the scales where there is a count
pub some-passed : (a b d e : Option (List ℕ)) (n : ℕ) (o : Option ℕ) (changed : ℕ) → o ≡ Some changed → IfSome a (λ xs. ScalesPassed n o xs b d e) → IfSome a (λ xs. HalvesPassed n changed xs b d e)
some-passed a b d e n o changed is = subst (λ (p : Option ℕ). IfSome a (λ xs. ScalesPassed n p xs b d e)) is

pub narrowed_none : (a d : Option (List ℕ)) → IfSome a (λ xs. HalvesPassed 0 0 xs a d d)
unfolding scales_in joined
narrowed_none None d = tt
narrowed_none (Some xs) d = record { enough = omega arith; count = refl; rest = refl; sent = Appends-nil d }

-- ---- one chunk: `scales` of whole ones filled a buffer as long as `old`, and m is how long the buffer for their halves is

module _ (old scales : List ℕ) (m : ℕ) (w : Whole old) (room : m * 2 ≡ length old) (same : length scales ≡ length old) where
  -- all of it is written
  whole_chunk : with_room scales m ≡ scales
  whole_chunk = take_all (min (length scales / 4) (m / 2) * 4) scales (let e = w.1 in omega arith)

  pub few_changed : (changed : ℕ) → changed ≡ changes_in (with_room scales m) → changed ≤ length old / 4
  few_changed changed e = omega (arith, e, ap changes_in whole_chunk, changes-few scales)

-- what filled the buffer, and was written as halves
pub narrowed_chunk : (a b d e : Option (List ℕ)) (old scales halves before : List ℕ) (got changed : ℕ) → Whole old → length before * 2 ≡ length old → length scales ≡ length old → length scales ≤ got
    → IfSome a (λ xs. Filled scales got xs b) → changed ≡ changes_in (with_room scales (length before))
    → halves ≡ over (halves_of (with_room scales (length before))) before → Appends d e halves
    → IfSome a (λ xs. HalvesPassed (length old / 4) changed xs b d e)
narrowed_chunk None b d e old scales halves before got changed w room same full read count written sent = tt
narrowed_chunk (Some xs) b d e old scales halves before got changed w room same full read count written sent =
    let n : ℕ = length old / 4 in
    let four : n * 4 ≡ length scales = let e = w.1 in omega arith in
    let all : got ≡ length scales = omega (arith, read.many) in
    let mine : scales ≡ take (n * 4) xs = sym (take_all got scales (omega arith)) ∙ read.bytes ∙ ap (λ k. take k xs) (all ∙ sym four) in
    let whole = whole_chunk old scales (length before) w room same in
    let enough : n * 4 ≤ length xs = omega (arith, read.many) in
    let long : length (halves_of scales) ≡ length before = ap (λ ys. length (halves_of ys)) mine ∙ halves-long n xs enough ∙ omega (arith, four) in
    let out : halves ≡ halves_of (take (n * 4) xs) = written ∙ ap (λ ys. over (halves_of ys) before) whole ∙ over-all (halves_of scales) before long ∙ ap halves_of mine in
    record {
      enough = enough;
      count = count ∙ ap changes_in (whole ∙ mine);
      rest = read.rest ∙ ap (λ k. Some (drop k xs)) (all ∙ sym four);
      sent = subst (Appends d e) out sent;
    }
