-- Bytes printed one after the other.
use mathlib.Core.Path.{◌≡◌, refl, sym, ap, ap₂, ◌∙◌}
use mathlib.Core.Bool.{Bool, true, false}
use mathlib.Core.List.{List, [], ◌∷◌, ◌++◌}
use Prim.Native.Nat.{ℕ, suc, ◌+◌, ◌-◌, ◌≤◌, min}
use native.Mathlib.Nat.{min-eq_left, min-eq_right, le_of_lt}
use native.Mathlib.Decide.{dec_lt}
use native.Mathlib.Omega.{arith}
use borrow.Rule.Slice.PartMut.{put_mid}
use borrow.Author.Tests.{ltb-true, ltb-false}
use lib.Dec.{ltb}
use lib.ListN.{length, take, drop, length-append, take-append-drop}
use lib.Seq.{sets, sets-eq, set_out, take_at, take-length, length-sets, length-take-le}
use Rattle.std.proofs.lemmas.List.{drop_all}
use Rattle.std.proofs.lemmas.Slice.{put_mid-paste}
use Rattle.lists.proofs.Keep.{sets-append}
use Rattle.io.specs.Counts.{IsPrefixLen}
use Rattle.print.specs.declared.Printer.{Printer}
use Rattle.print.specs.Printed.{Prints}
use Rattle.print.specs.Printer.{Printed}

-- bytes that are stored at the end of the list, or past it, are lost
sets-out : (l : List ℕ) (k : ℕ) (t : List ℕ) → length l ≤ k → sets l k t ≡ l
sets-out l k [] h = refl
sets-out l k (b ∷ t) h = rw (set_out l k b h) (sets-out l (suc k) t (omega arith))

cut : (l : List ℕ) (k n : ℕ) (t : List ℕ) → length l ≡ n → sets l (min k n) t ≡ sets l k t
cut l k n t e = go (ltb k n) refl
  where
    go : (b : Bool) → ltb k n ≡ b → sets l (min k n) t ≡ sets l k t
    go true h = rw (min-eq_left (le_of_lt (ltb-true k n h)))
    go false h = let past = ltb-false k n h in rw (min-eq_right past, sets-out l n t (omega arith), sets-out l k t (omega arith))

-- what is printed from the place after s on stands after s
pub print_then : (d : List ℕ) (at : ℕ) (s t d' : List ℕ) (next : ℕ) (d'' : List ℕ) (after : ℕ) → Prints d at s d' next → Prints d' next t d'' after → Prints d at (s ++ t) d'' after
print_then d at s t d' next d'' after p q =
    let kept : length d' ≡ length d = ap length p.text ∙ length-sets d at s in
    let both : length (s ++ t) ≡ length s + length t = length-append s t in
    record {
      text =
          q.text ∙ ap₂ (λ (l : List ℕ) (k : ℕ). sets l k t) p.text p.place
          ∙ cut (sets d at s) (at + length s) (length d) t (length-sets d at s)
          ∙ sym (sets-append d at s t);
      place = omega (arith, p.place, q.place);
    }

pub put_none : (p : Printer) → Printed [] p p
put_none p = record { prints = record { text = refl; place = omega (arith, p.in_out) }; same_buffer = refl }

-- t after s
pub put_then : {old mid : Printer} {s : List ℕ} → Printed s old mid → {new : Printer} {t : List ℕ} → Printed t mid new → Printed (s ++ t) old new
put_then {old} {mid} {s} p {new} {t} q =
    record { prints = print_then old.out.now old.at s t mid.out.now mid.at new.out.now new.at p.prints q.prints; same_buffer = q.same_buffer ∙ p.same_buffer }

-- what has room of t, stored from k on, is all that is stored of it
room : (d : List ℕ) (k : ℕ) (t : List ℕ) (n : ℕ) → k ≤ length d → n ≡ min (length t) (length d - k) → sets d k (take n t) ≡ sets d k t
room d k t n h e = sym rest ∙ ap (λ (l : List ℕ). sets d k l) (take-append-drop n t)
  where
    size : length (take n t) ≡ n
    size = length-take-le n t (omega arith)

    past : (s : List ℕ) (i : ℕ) → length s ≡ length d → i ≡ k + n → sets s i (drop n t) ≡ s
    past s i same at =
        elim (dec_lt (length t) (length d - k)) [
          | yes few ↦ rw (drop_all n t (omega arith))
          | no many ↦ sets-out s i (drop n t) (omega arith)
        ]

    rest : sets d k (take n t ++ drop n t) ≡ sets d k (take n t)
    rest = sets-append d k (take n t) (drop n t) ∙ past (sets d k (take n t)) (k + length (take n t)) (length-sets d k (take n t)) (omega (arith, size))

-- a copy of what has room
pub put_copy : (d : List ℕ) (at : ℕ) (t : List ℕ) (n k : ℕ) (part : List ℕ) → at ≤ length d → n ≡ min (length t) (length d - at) → k ≡ n → part ≡ take n t → Prints d at t (put_mid at k d part) (at + n)
put_copy d at t n k part h e same copied =
    let size : length (take n t) ≡ n = length-take-le n t (omega arith) in
    let stored : put_mid at k d part ≡ sets d at (take n t) =
    put_mid-paste at k d part (take n t) (length (take n t)) copied (omega arith) refl ∙ rw take-length (sym (sets-eq (take n t) d at (omega arith))) in
    record { text = stored ∙ room d at t n h e; place = omega arith }

-- what has room at the front stands there whole
pub whole : (d t d' : List ℕ) (next : ℕ) → length t ≤ length d → Prints d 0 t d' next → IsPrefixLen next d' × (take next d' ≡ t)
whole d t d' next room p =
    let size : length d' ≡ length d = ap length p.text ∙ length-sets d 0 t in
    let end : next ≡ length t = omega (arith, p.place) in
    let text : take next d' ≡ t = ap (take next) (p.text ∙ sets-eq t d 0 (omega arith)) ∙ take_at t (drop (0 + length t) d) next (sym end) in
    ((omega arith, end ∙ ap length (sym text)), text)
