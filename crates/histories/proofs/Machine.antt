-- A machine that knows only header, next arrival and live arrivals, and is told whether the slots in use fill the capacity. It gives every answer by arrival.
use mathlib.Core.Path.{◌≡◌, refl, sym, ◌∙◌, subst}
use mathlib.Core.Bool.{Bool, true, false, not, cond, ◌&&◌, ◌||◌}
use mathlib.Core.List.{List, [], ◌∷◌, map}
use mathlib.Core.Option.{Option, none, some}
use Prim.Native.Nat.{ℕ, zero, suc}
use lib.ListN.{length}
use lib.Dec.{T, ltb, eqb}
use Rattle.encode.specs.Coded.{fault}
use Rattle.index.specs.Step.{Item, Answer, refused, done, flag, slot, maybe_slot, maybe_key, hits, key_hits, size, bytes, first_of, when, unless, must_stay, Cell, is_held, slot_holding, by_slot, by_key, searched, score_answer, key_answer, file_bytes}
use Rattle.index.specs.History.{HistoryOp, add, add_keyed, add_multi, relabel, remove, compact, score, search, search_keyed, key_of, contains, slot_of, file_length, write}
use Rattle.histories.specs.Histories.{LiveArrival, Told, taken, is_append, first_with, one_stays, accepted, says}
use Rattle.histories.proofs.Held.{cells_of, found, first-taken}
use Rattle.histories.proofs.Tracks.{none_seen, find}

abbrev pub cells_in : Told → List Cell
cells_in t = cells_of none_seen t.living

abbrev pub appending : (full : Bool) → Told → Item → Answer
appending full t v = unless (first_of (fault t.header v.vector ∷ when full 8 ∷ [])) (slot t.next)

-- by the first live arrival of the key
abbrev pub appending_or_over : (full : Bool) → Told → Item → (present : ℕ) → Option LiveArrival → Answer
appending_or_over full t v present none = appending full t v
appending_or_over full t v present (some l) = unless (first_of (fault t.header v.vector ∷ when (must_stay present l.year) 21 ∷ [])) (slot l.arrival)

unfoldable pub answer_of : (full : Bool) → Told → HistoryOp → Answer
answer_of full t (add v y) = appending full t v
answer_of full t (add_keyed j v y present) = appending_or_over full t v present (first_with j t.living)
answer_of full t (add_multi j v y) = appending full t v
answer_of full t (relabel j k) = flag (is_held j (cells_in t) && (eqb j k || not (is_held k (cells_in t))))
answer_of full t (remove j present) = cond (one_stays j present t.living) (refused 21) (flag (taken j t.living))
answer_of full t compact = done
answer_of full t (score a q) = score_answer t.header q (find a (cells_in t))
answer_of full t (search q k places) = searched t.header (cells_in t) q k places (λ xs. hits (map by_slot xs))
answer_of full t (search_keyed q k places) = searched t.header (cells_in t) q k places (λ xs. key_hits (by_key [] xs))
answer_of full t (key_of a) = maybe_key (key_answer (find a (cells_in t)))
answer_of full t (contains j) = flag (is_held j (cells_in t))
answer_of full t (slot_of j i) = maybe_slot (slot_holding j i (cells_in t))
answer_of full t file_length = size (length (file_bytes t.header (cells_in t)))
answer_of full t (write places) = unless (when (ltb places (length (file_bytes t.header (cells_in t)))) 13) (bytes (file_bytes t.header (cells_in t)))

-- what is told after the machine's answer
abbrev pub next : (full : Bool) → Told → HistoryOp → Told
next full t op = cond (accepted (answer_of full t op)) (says op t) t

-- ---- of whether it is full only acceptance tells

-- two answers that part only where one of them is 8 and the other an accepted append
pub record PartFull (append : Bool) (b c : Answer) : Type 0 where
  pub same : accepted b ≡ accepted c → b ≡ c
  pub left : accepted b ≡ true → accepted c ≡ false → (append ≡ true) × (c ≡ refused 8)
  pub right : accepted b ≡ false → accepted c ≡ true → (append ≡ true) × (b ≡ refused 8)

part_none : (append : Bool) (b : Answer) → PartFull append b b
part_none append b = record { same = λ e. refl; left = λ e f. absurd (subst T (sym e ∙ f) tt); right = λ e f. absurd (subst T (sym f ∙ e) tt) }

appending-parts : (full empty : Bool) (t : Told) (v : Item) → PartFull true (appending full t v) (appending empty t v)
unfolding first_of
appending-parts full empty t v = go (fault t.header v.vector) full empty
  where
    go : (n : ℕ) (b c : Bool) → PartFull true (unless (first_of (n ∷ when b 8 ∷ [])) (slot t.next)) (unless (first_of (n ∷ when c 8 ∷ [])) (slot t.next))
    go (suc n) b c = part_none true (refused (suc n))
    go zero true true = part_none true (refused 8)
    go zero false false = part_none true (slot t.next)
    go zero true false = record { same = λ e. absurd (subst T (sym e) tt); left = λ e f. absurd (subst T (sym e) tt); right = λ e f. (refl, refl) }
    go zero false true = record { same = λ e. absurd (subst T e tt); left = λ e f. (refl, refl); right = λ e f. absurd (subst T (sym f) tt) }

pub answers-part : (full empty : Bool) (t : Told) (op : HistoryOp) → PartFull (is_append op t.living) (answer_of full t op) (answer_of empty t op)
unfolding answer_of
answers-part full empty t (add v y) = appending-parts full empty t v
answers-part full empty t (add_keyed j v y present) = go (first_with j t.living) (first-taken j t.living)
  where
    go : (o : Option LiveArrival) → found o ≡ taken j t.living →
        PartFull (not (taken j t.living)) (appending_or_over full t v present o) (appending_or_over empty t v present o)
    go none e = rw (← e) (appending-parts full empty t v)
    go (some l) e = part_none (not (taken j t.living)) (appending_or_over full t v present (some l))
answers-part full empty t (add_multi j v y) = appending-parts full empty t v
answers-part full empty t (relabel j k) = part_none false _
answers-part full empty t (remove j present) = part_none false _
answers-part full empty t compact = part_none false _
answers-part full empty t (score a q) = part_none false _
answers-part full empty t (search q k places) = part_none false _
answers-part full empty t (search_keyed q k places) = part_none false _
answers-part full empty t (key_of a) = part_none false _
answers-part full empty t (contains j) = part_none false _
answers-part full empty t (slot_of j i) = part_none false _
answers-part full empty t file_length = part_none false _
answers-part full empty t (write places) = part_none false _
