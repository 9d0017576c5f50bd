-- Scales written as halves one after the other.
use mathlib.Core.Path.{◌≡◌, refl, sym, ap, ap₂, ◌∙◌}
use mathlib.Core.List.{List, [], ◌∷◌, ◌++◌, map, append-nil, append_assoc}
use Prim.Native.Nat.{ℕ, suc, ◌+◌, ◌*◌, ◌≤◌}
use native.Mathlib.Numerals.{add-one}
use native.Mathlib.Omega.{arith}
use lib.ListN.{length, take, drop, length-drop}
use lib.Seq.{drop-drop}
use borrow.Rule.Slice.PartMut.{put_mid}
use Rattle.lists.specs.Lists.{over, splice, joined}
use Rattle.lists.specs.Keep.{bit, count}
use Rattle.lists.proofs.Bits.{as-bit, one_at_most}
use Rattle.lists.proofs.Front.{over-append}
use Rattle.half.specs.Half.{narrowed}
use Rattle.index.specs.File.{le_bytes}
use Rattle.conversion.specs.Scales.{changes, scales_in, halves_of, changes_in}
use Rattle.conversion.proofs.Scales.{scale_at, scales-first, halves-more, changes-more, halves-long}

-- the first i scales stand as halves at the front of what `halves` was, and so many of them changed
pub record Done (scales before : List ℕ) (i changed : ℕ) (halves : List ℕ) : Type 0 where
  pub count : changed ≡ changes_in (take (i * 4) scales)
  pub few : changed ≤ i
  pub written : halves ≡ over (halves_of (take (i * 4) scales)) before

pub done-none : (scales before : List ℕ) → Done scales before 0 0 before
unfolding scales_in over joined
done-none scales before = record { count = refl; few = omega arith; written = refl }

put-splice : (i : ℕ) (xs ys : List ℕ) → put_mid i (length ys) xs ys ≡ splice i ys xs
unfolding splice
put-splice i xs ys =
    ap (λ (zs : List ℕ). take i xs ++ (ys ++ zs)) (drop-drop (length ys) i xs) ∙ sym (append_assoc (take i xs) ys (drop (i + length ys) xs))

module _ (scales : List ℕ) (i : ℕ) (room : suc i * 4 ≤ length scales) where
  abbrev one : List ℕ
  one = drop (i * 4) scales

  one-scale : scales_in (take (1 * 4) one) ≡ scale_at scales i ∷ []
  one-scale = scales-first 1 one (omega (arith, length-drop (i * 4) scales))

  one-half : halves_of (take (suc i * 4) scales) ≡ halves_of (take (i * 4) scales) ++ le_bytes 2 (narrowed (scale_at scales i))
  unfolding joined
  one-half =
      ap (λ (k : ℕ). halves_of (take (k * 4) scales)) (sym (add-one i)) ∙ halves-more i 1 scales (omega (arith, room))
      ∙ ap (λ (xs : List ℕ). halves_of (take (i * 4) scales) ++ joined (map (λ x. le_bytes 2 (narrowed x)) xs)) one-scale
      ∙ ap (λ (ys : List ℕ). halves_of (take (i * 4) scales) ++ ys) (append-nil (le_bytes 2 (narrowed (scale_at scales i))))

  one-change : changes_in (take (suc i * 4) scales) ≡ changes_in (take (i * 4) scales) + bit (changes (scale_at scales i))
  one-change =
      ap (λ (k : ℕ). changes_in (take (k * 4) scales)) (sym (add-one i)) ∙ changes-more i 1 scales (omega (arith, room))
      ∙ ap (λ (xs : List ℕ). changes_in (take (i * 4) scales) + count changes xs) one-scale ∙ omega arith

  -- one scale more, its half copied between what stands before it and after
  pub done-more : (before : List ℕ) {changed : ℕ} {halves : List ℕ} → Done scales before i changed halves → (half : List ℕ) → half ≡ le_bytes 2 (narrowed (scale_at scales i))
      → (c : ℕ) → c ≡ bit (changes (scale_at scales i)) → (k : ℕ) → k ≡ 2 → (next : List ℕ) → next ≡ put_mid (i * 2) k halves half → Done scales before (i + 1) (changed + c) next
  done-more before {changed} {halves} d half e c f k two next g =
      rw (add-one i)
      (record {
        count = ap₂ (λ (m k : ℕ). m + k) d.count f ∙ sym one-change;
        few = omega (arith, d.few, f, as-bit (changes (scale_at scales i)), one_at_most (changes (scale_at scales i)));
        written =
            g ∙ ap (λ (j : ℕ). put_mid (i * 2) j halves half) (two ∙ sym (ap length e)) ∙ put-splice (i * 2) halves half
            ∙ rw (d.written, e)
            (ap (λ (k : ℕ). splice k (le_bytes 2 (narrowed (scale_at scales i))) (over (halves_of (take (i * 4) scales)) before)) (sym (halves-long i scales (omega (arith, room))))
            ∙ sym (over-append (halves_of (take (i * 4) scales)) (le_bytes 2 (narrowed (scale_at scales i))) before) ∙ ap (λ (ys : List ℕ). over ys before) (sym one-half));
      })
