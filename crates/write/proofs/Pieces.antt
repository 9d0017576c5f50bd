-- What is written slot by slot is the file of the live slots.
use mathlib.Core.Path.{◌≡◌, refl, sym, ap, ap₂, ◌∙◌}
use mathlib.Core.Bool.{Bool, true, false, cond, ◌&&◌}
use mathlib.Core.List.{List, [], ◌∷◌, ◌++◌, map, map-map, map-append}
use mathlib.Core.Option.{Option, none, some}
use Prim.Native.Nat.{ℕ, zero, suc, ◌+◌}
use native.Mathlib.Nat.{zero-add, add-zero, suc-add, add-suc}
use native.Mathlib.Omega.{arith}
use lib.ListN.{length, get_or, length-append}
use lib.Dec.{ltb}
use borrow.Author.Tests.{lt-ltb}
use Rattle.lists.specs.Lists.{tab, joined, below}
use Rattle.lists.specs.Keep.{keep, count}
use Rattle.lists.proofs.Keep.{keep_append}
use Rattle.lists.proofs.Front.{map-tab}
use Rattle.half.specs.Half.{narrowed}
use Rattle.codes.specs.Stage.{Stage}
use Rattle.codes.specs.Slots.{block_at}
use Rattle.encode.specs.declared.Header.{Header}
use Rattle.encode.specs.Header.{block_size}
use Rattle.encode.specs.Coded.{Code}
use Rattle.index.specs.Arrays.{Arrays}
use Rattle.index.specs.State.{mark_of, stage_at, slot_at}
use Rattle.index.specs.File.{Entry, le_bytes, version_of, width_byte, stage_bytes, second_stages, key_entries, year_bytes, file_of}
use Rattle.index.specs.Form.{form_of}
use Rattle.index.specs.Step.{live_from, key_of_mark, file_bytes}
use Rattle.index.proofs.Blocks.{joined-append}
use Rattle.marks.specs.Live.{live_at}
use Rattle.layout.specs.Counts.{entry_at, counts_of}
use Rattle.layout.proofs.Length.{keyed-count}
use Rattle.layout.proofs.Counting.{numbers, slot_entry, entries, entries-are, live-many, keyed-many}
use Rattle.write.specs.declared.Writer.{Writer}
use Rattle.write.specs.Put.{Room, Put}
use Rattle.write.specs.Pieces.{in_order, scale_piece, code_piece, key_piece, year_piece, stage_pieces, second_pieces, year_pieces, file_pieces}
use Rattle.write.proofs.Putting.{order-more}

-- ---- blocks of those that pass a test

kept-joined : (p : ℕ → Bool) (f : ℕ → List ℕ) (is : List ℕ) → joined (map f (keep p is)) ≡ joined (map (λ i. cond (p i) (f i) []) is)
unfolding joined
kept-joined p f [] = refl
kept-joined p f (i ∷ is) = go (p i) (kept-joined p f is)
  where
    go : (b : Bool) → joined (map f (keep p is)) ≡ joined (map (λ i. cond (p i) (f i) []) is) →
        joined (map f (cond b (i ∷ keep p is) (keep p is))) ≡ cond b (f i) [] ++ joined (map (λ i. cond (p i) (f i) []) is)
    go true ih = rw ih
    go false ih = ih

kept-order : (p : ℕ → Bool) (f : ℕ → List ℕ) (n : ℕ) → joined (map f (keep p (below n))) ≡ in_order (λ i. cond (p i) (f i) []) n
kept-order p f n = kept-joined p f (below n) ∙ ap joined (map-tab (λ i. cond (p i) (f i) []) (λ i. i) n)

-- ---- key entries

entries-append : (i : ℕ) (es fs : List Entry) → key_entries i (es ++ fs) ≡ key_entries i es ++ key_entries (i + length es) fs
unfolding key_entries
entries-append i [] fs = rw (add-zero i)
entries-append i (e ∷ es) fs = go e.key (entries-append (suc i) es fs ∙ rw (suc-add i (length es), ← add-suc i (length es)))
  where
    go : (o : Option ℕ) → key_entries (suc i) (es ++ fs) ≡ key_entries (suc i) es ++ key_entries (i + suc (length es)) fs →
        key_entries i (record { code = e.code; key = o; year = e.year } ∷ (es ++ fs))
        ≡ key_entries i (record { code = e.code; key = o; year = e.year } ∷ es) ++ key_entries (i + suc (length es)) fs
    go none ih = ih
    go (some k) ih = rw ih

map-one : {A B : Type 0} (f : A → B) (b : Bool) (x : A) → map f (cond b (x ∷ []) []) ≡ cond b (f x ∷ []) []
map-one f true x = refl
map-one f false x = refl

-- the entry of one slot, under the number j
one_entry : (c : Code) (m : ℕ) (on : Bool) (k p y j : ℕ) →
    joined (key_entries j (cond (ltb 0 m) (record { code = c; key = key_of_mark (mark_of m on k p); year = y } ∷ []) [])) ≡ cond (ltb 0 m && on) (le_bytes 4 j ++ le_bytes 8 k) []
unfolding joined key_entries
one_entry c zero on k p y j = refl
one_entry c (suc m) true k p y j = rw (lt-ltb 0 (suc m) (omega arith))
one_entry c (suc m) false k p y j = rw (lt-ltb 0 (suc m) (omega arith))

module _ (h : Header) (a : Arrays) where
  abbrev entry : ℕ → Entry
  entry = slot_entry h a

  -- the entry of a slot if it is live
  abbrev entry_if : ℕ → List Entry
  entry_if n = cond (live_at a.alive n) (entry n ∷ []) []

  entries-more : (n : ℕ) → entries h a (suc n) ≡ entries h a n ++ entry_if n
  entries-more n =
      ap (map entry) (keep_append (live_at a.alive) (below n) (n ∷ [])) ∙ map-append entry (numbers h a n) (cond (live_at a.alive n) (n ∷ []) [])
      ∙ ap (λ (es : List Entry). entries h a n ++ es) (map-one entry (live_at a.alive n) n)

  abbrev entry_bytes : ℕ → List ℕ
  entry_bytes = key_piece a.keys a.keyed a.alive

  last_entry : (n : ℕ) → joined (key_entries (count (live_at a.alive) (below n)) (entry_if n)) ≡ entry_bytes n
  unfolding slot_at key_piece
  last_entry n =
      one_entry (slot_at h a n).code (get_or a.alive n 0) (get_or a.keyed n false) (get_or a.keys n 0) (get_or a.held n 0) (get_or a.years n 0)
      (count (live_at a.alive) (below n))

  key-pieces : (n : ℕ) → joined (key_entries 0 (entries h a n)) ≡ in_order entry_bytes n
  unfolding joined key_entries
  key-pieces zero = refl
  key-pieces (suc n) =
      ap (λ (es : List Entry). joined (key_entries 0 es)) (entries-more n) ∙ ap joined (entries-append 0 (entries h a n) (entry_if n))
      ∙ joined-append (key_entries 0 (entries h a n)) (key_entries (0 + length (entries h a n)) (entry_if n)) ∙ ap₂ ◌++◌ (key-pieces n) last ∙ sym (order-more entry_bytes n)
    where
      last : joined (key_entries (0 + length (entries h a n)) (entry_if n)) ≡ entry_bytes n
      last = ap (λ (j : ℕ). joined (key_entries j (entry_if n))) (zero-add (length (entries h a n)) ∙ live-many h a n) ∙ last_entry n

  -- ---- stages

  stage-pieces : (scales codes : List ℕ) (n : ℕ) → stage_bytes (map (stage_at h scales codes) (numbers h a n)) ≡ stage_pieces codes scales a.alive (block_size h) n
  unfolding stage_pieces scale_piece code_piece
  stage-pieces scales codes n =
      ap₂ ◌++◌
      (ap joined (map-map (λ (g : Stage). le_bytes 2 (narrowed g.scale)) (stage_at h scales codes) (numbers h a n))
      ∙ kept-order (live_at a.alive) (λ i. le_bytes 2 (narrowed (get_or scales i 0))) n)
      (ap joined (map-map (λ (g : Stage). g.block) (stage_at h scales codes) (numbers h a n))
      ∙ kept-order (live_at a.alive) (λ i. block_at (block_size h) i codes) n)

  seconds-by : (b : Bool) → h.residual ≡ b → (is : List ℕ) → second_stages (map entry is)
      ≡ cond b (map (stage_at h a.scales2 a.codes2) is) []
  unfolding slot_at second_stages
  seconds-by true e [] = refl
  seconds-by true e (i ∷ is) = rw e (ap (λ (gs : List Stage). stage_at h a.scales2 a.codes2 i ∷ gs) (seconds-by true e is))
  seconds-by false e [] = refl
  seconds-by false e (i ∷ is) = rw e (seconds-by false e is)

  second-pieces : (n : ℕ) → stage_bytes (second_stages (entries h a n)) ≡ second_pieces h.residual a.codes2 a.scales2 a.alive (block_size h) n
  unfolding second_pieces joined
  second-pieces n = ap stage_bytes (seconds-by h.residual refl (numbers h a n)) ∙ go h.residual
    where
      go : (b : Bool) → stage_bytes (cond b (map (stage_at h a.scales2 a.codes2) (numbers h a n)) [])
          ≡ cond b (stage_pieces a.codes2 a.scales2 a.alive (block_size h) n) []
      go true = stage-pieces a.scales2 a.codes2 n
      go false = refl

  firsts-are : (n : ℕ) → map (λ e. e.code.first) (entries h a n) ≡ map (stage_at h a.scales a.codes) (numbers h a n)
  unfolding slot_at
  firsts-are n = map-map (λ (e : Entry). e.code.first) (slot_entry h a) (numbers h a n)

  -- ---- years

  year-pieces : (v n : ℕ) → year_bytes v (entries h a n) ≡ year_pieces v a.years a.alive n
  unfolding slot_at year_piece year_pieces
  year-pieces v n =
      ap (λ (bs : List (List ℕ)). cond (form_of v).years (joined bs) []) (map-map (λ (e : Entry). le_bytes 2 e.year) entry (numbers h a n))
      ∙ ap (λ (bs : List ℕ). cond (form_of v).years bs []) (kept-order (live_at a.alive) (λ i. le_bytes 2 (get_or a.years i 0)) n)

  -- ---- the file

  pub file-pieces : (n : ℕ) → file_bytes h (live_from 0 (tab (slot_at h a) n))
      ≡ file_pieces (version_of h (entries h a n)) h a n
  unfolding file_of file_pieces counts_of
  file-pieces n =
      ap (file_of h) (entries-are h a n)
      ∙ rw (live-many h a n, firsts-are n, stage-pieces a.scales a.codes n, second-pieces n)
      (rw (keyed-count 0 (entries h a n), keyed-many h a n, key-pieces n, year-pieces (version_of h (entries h a n)) n))

-- ---- the entry under a number that is known

module _ (keys : List ℕ) (keyed : List Bool) (alive : List ℕ) (i number : ℕ) (e : number ≡ count (live_at alive) (below i)) where
  abbrev entry_under : List ℕ
  entry_under = cond (entry_at keyed alive i) (le_bytes 4 number ++ le_bytes 8 (get_or keys i 0)) []

  same-entry : entry_under ≡ key_piece keys keyed alive i
  unfolding key_piece
  same-entry = ap (λ (v : ℕ). cond (entry_at keyed alive i) (le_bytes 4 v ++ le_bytes 8 (get_or keys i 0)) []) e

  pub entry-room : (w : Writer) → Room (key_piece keys keyed alive i) w → Room entry_under w
  entry-room w l = rw same-entry l

  pub entry-is : {old new : Writer} → Put entry_under old new → Put (key_piece keys keyed alive i) old new
  entry-is p = rw same-entry at p

-- ---- the blocks of a file, one after the other

module _ (v : ℕ) (h : Header) (a : Arrays) (n : ℕ) where
  pub pieces-length : length (file_pieces v h a n)
      ≡ 24 + length (width_byte v h) + length (stage_pieces a.codes a.scales a.alive (block_size h) n)
      + length (second_pieces h.residual a.codes2 a.scales2 a.alive (block_size h) n) + 4 + length (in_order (key_piece a.keys a.keyed a.alive) n)
      + length (year_pieces v a.years a.alive n)
  unfolding file_pieces
  pieces-length = simp length-append (omega arith)
