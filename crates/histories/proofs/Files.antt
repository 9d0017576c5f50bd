-- A file that is written is that of the live arrivals as the calls tell of them.
use mathlib.Core.Path.{◌≡◌, refl, sym, ap, ap₂, ◌∙◌}
use mathlib.Core.List.{List, [], ◌∷◌, map}
use mathlib.Core.Option.{Option, none, some}
use Prim.Native.Nat.{ℕ}
use lib.ListN.{length}
use lib.Dec.{ltb}
use Rattle.index.specs.File.{Entry, file_of}
use Rattle.index.specs.Step.{size, bytes, when, key_of_mark, entry_of, file_bytes}
use Rattle.index.specs.History.{file_length, write}
use Rattle.histories.specs.Histories.{LiveArrival, Told, Run, file_of_living, Files}
use Rattle.histories.proofs.Reading.{passed}
use Rattle.histories.proofs.Held.{mark_for, seen_after, cells_of}
use Rattle.histories.proofs.Tracks.{none_seen}
use Rattle.histories.proofs.Machine.{cells_in, answer_of}
use Rattle.histories.proofs.Runs.{Good, answer-machine, accepts-machine}

entries : (seen : ℕ → ℕ) (ls : List LiveArrival) → map entry_of (cells_of seen ls) ≡ map (λ l. record { code = l.code; key = l.key; year = l.year }) ls
entries seen [] = refl
entries seen (l ∷ ls) = ap₂ (λ (o : Option ℕ) (es : List Entry). record { code = l.code; key = o; year = l.year } ∷ es) (go l.key) (entries (seen_after seen l.key) ls)
  where
    go : (o : Option ℕ) → key_of_mark (mark_for seen o) ≡ o
    go none = refl
    go (some k) = refl

file-is : (t : Told) → file_bytes t.header (cells_in t) ≡ file_of_living t
file-is t = ap (file_of t.header) (entries none_seen t.living)

pub good-files : (r : Run) → Good r → Files r
unfolding answer_of
good-files r g =
    record {
      sized = answer-machine r g file_length refl ∙ ap (λ (bs : List ℕ). some (size (length bs))) (file-is r.told);
      written = λ places ok.
          answer-machine r g (write places) refl ∙
          ap some (passed (when (ltb places (length (file_bytes r.told.header (cells_in r.told)))) 13) (bytes (file_bytes r.told.header (cells_in r.told)))
          (sym (accepts-machine r g (write places) refl) ∙ ok) ∙ ap bytes (file-is r.told));
    }
