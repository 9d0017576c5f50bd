-- Entries and blocks that move down: one more turn of each loop.
use mathlib.Core.Path.{◌≡◌, refl, sym, ap, ◌∙◌}
use mathlib.Core.Bool.{true, false}
use mathlib.Core.List.{List, [], ◌∷◌, ◌++◌, append-nil}
use Prim.Native.Nat.{ℕ, suc, ◌+◌, ◌-◌, ◌*◌, ◌/◌, ◌≤◌, ◌<◌}
use native.Mathlib.Nat.{suc-mul, mul-le-mul_right, div-mul-le_self}
use native.Mathlib.Numerals.{add-one}
use native.Mathlib.Omega.{arith}
use lib.ListN.{length, get_or, set, take, drop, length-append, length-drop}
use lib.Seq.{paste, length-take-le, drop-append-add, drop-drop}
use borrow.Author.Tests.{le-leb}
use Rattle.lists.specs.Lists.{tab, over, splice, joined, below}
use Rattle.lists.specs.Keep.{keep}
use Rattle.lists.proofs.Laws.{length-tab, get_d_default, length_over, over-more}
use Rattle.lists.proofs.Keep.{keep_append, length-keep, count-length}
use Rattle.lists.proofs.Front.{get_or-rest, over-append, splice-one, each-tab}
use Rattle.codes.specs.Slots.{block_at}
use Rattle.index.proofs.Blocks.{joined-append, length-joined, length-block}
use Rattle.marks.specs.Live.{live_at}
use Rattle.compact.specs.Gathered.{live_slots, gathered, gathered_blocks, Downward}

-- ---- entries

module _ {A : Type 0} (slots : List ℕ) (old : List A) where
  pub moved-none : (d : A) → old ≡ gathered slots 0 d old
  unfolding gathered over
  moved-none d = refl

  -- one entry more, which has not been written over, since no entry moves up
  pub moved_more : (n : ℕ) → Downward slots n (length old) → {i : ℕ} {xs : List A} → ((d : A) → xs ≡ gathered slots i d old) → i < n
      → (x : A) → x ≡ get_or xs (get_or slots i 0) x → (d : A) → set xs i x ≡ gathered slots (i + 1) d old
  unfolding gathered
  moved_more n w {i} {xs} m l x e d = rw (m d, entry) (over-more (λ j. get_or old (get_or slots j 0) d) i old (omega (arith, w.below i l, w.down i l)))
    where
      from : List A
      from = tab (λ j. get_or old (get_or slots j 0) x) i

      entry : x ≡ get_or old (get_or slots i 0) d
      entry =
          e ∙ ap (λ (ys : List A). get_or ys (get_or slots i 0) x) (m x)
          ∙ get_or-rest from old (get_or slots i 0) x (rw (length-tab (λ j. get_or old (get_or slots j 0) x) i) (w.down i l))
          ∙ get_d_default old (get_or slots i 0) x d (w.below i l)

-- ---- blocks

-- past what was written
drop-rest : {A : Type 0} (ys xs : List A) (k : ℕ) → length ys ≤ k → drop k (over ys xs) ≡ drop k xs
unfolding over
drop-rest ys xs k l =
    let e : length ys + (k - length ys) ≡ k = omega arith in
    ap (λ (j : ℕ). drop j (ys ++ drop (length ys) xs)) (sym e) ∙ drop-append-add ys (drop (length ys) xs) (k - length ys)
    ∙ drop-drop (k - length ys) (length ys) xs ∙ ap (λ (j : ℕ). drop j xs) e

-- of two lists written over the same places, the later one is read
pub over-over : {A : Type 0} (ys zs xs : List A) → length zs ≤ length ys → over ys (over zs xs) ≡ over ys xs
unfolding over
over-over ys zs xs l = ap (λ rest. ys ++ rest) (drop-rest zs xs (length ys) l)

module _ (slots : List ℕ) (n size : ℕ) (old : List ℕ) (w : Downward slots n (length old / size)) where
  pub blocks-none : old ≡ gathered_blocks slots 0 size old
  unfolding gathered_blocks joined over
  blocks-none = refl

  -- a slot's block lies in the array
  block_room : (i : ℕ) → i < n → get_or slots i 0 * size + size ≤ length old
  block_room i l = omega (arith, suc-mul (get_or slots i 0) size, mul-le-mul_right size (w.below i l), div-mul-le_self (length old) size)

  abbrev block_of : ℕ → List ℕ
  block_of j = block_at size (get_or slots j 0) old

  moved_length : (i : ℕ) → i ≤ n → length (joined (tab block_of i)) ≡ i * size
  moved_length i l =
      length-joined size (tab block_of i) (each-tab (λ b. length b ≡ size) block_of i (λ j k. length-block size (get_or slots j 0) old (block_room j (omega arith))))
      ∙ ap (λ (m : ℕ). m * size) (length-tab block_of i)

  module _ {i : ℕ} {xs : List ℕ} (m : xs ≡ gathered_blocks slots i size old) (same : length xs ≡ length old) (l : i < n) where
    pub blocks_from : get_or slots i 0 * size + size ≤ length xs
    blocks_from = omega (arith, block_room i l)

    pub blocks_to : i * size ≤ get_or slots i 0 * size
    blocks_to = mul-le-mul_right size (w.down i l)

    pub blocks_more : {k : ℕ} → k ≡ size → paste xs (i * size) (drop (get_or slots i 0 * size) xs) k ≡ gathered_blocks slots (i + 1) size old
    unfolding gathered_blocks joined block_at splice
    blocks_more e = rw e (ap (λ (k : ℕ). take (i * size) xs ++ take size (drop (get_or slots i 0 * size) xs) ++ drop (i * size + k) xs) (sym long) ∙ go)
      where
        front : List ℕ
        front = joined (tab block_of i)

        many : length front ≡ i * size
        many = moved_length i (omega arith)

        here : take size (drop (get_or slots i 0 * size) xs) ≡ block_of i
        here =
            ap (λ (r : List ℕ). take size (drop (get_or slots i 0 * size) r)) m
            ∙ ap (take size) (drop-rest front old (get_or slots i 0 * size) (rw many blocks_to)) ∙ rw (le-leb _ _ (block_room i l))

        long : length (take size (drop (get_or slots i 0 * size) xs)) ≡ size
        long = length-take-le size (drop (get_or slots i 0 * size) xs) (rw (length-drop (get_or slots i 0 * size) xs) (omega (arith, blocks_from)))

        go : splice (i * size) (take size (drop (get_or slots i 0 * size) xs)) xs ≡ gathered_blocks slots (i + 1) size old
        go =
            rw (here, m, add-one i)
            (ap (λ (k : ℕ). splice k (block_of i) (over front old)) (sym many) ∙ sym (over-append front (block_of i) old)
            ∙ ap (λ (r : List ℕ). over (front ++ r) old) (sym (append-nil (block_of i))) ∙ ap (λ (r : List ℕ). over r old) (sym (joined-append (tab block_of i) (block_of i ∷ []))))

-- ---- the live slots

-- the live ones of the first i slots are listed
pub record Listed (alive : List ℕ) (i : ℕ) (old slots : List ℕ) (many : ℕ) : Type 0 where
  pub count : many ≡ length (live_slots alive i)
  pub written : slots ≡ over (live_slots alive i) old

module _ (alive old : List ℕ) where
  pub listed-none : Listed alive 0 old old 0
  unfolding live_slots over
  listed-none = record { count = refl; written = refl }

  pub few-live : (i : ℕ) → length (live_slots alive i) ≤ i
  unfolding live_slots
  few-live i = omega (arith, length-keep (live_at alive) (below i), count-length (live_at alive) (below i), length-tab (λ j. j) i)

  module _ {i : ℕ} {slots : List ℕ} {many : ℕ} (m : Listed alive i old slots many) where
    pub listed-few : many ≤ i
    listed-few = omega (arith, m.count, few-live i)

    live_more : live_slots alive (suc i) ≡ live_slots alive i ++ keep (live_at alive) (i ∷ [])
    unfolding live_slots
    live_more = keep_append (live_at alive) (below i) (i ∷ [])

    pub listed_same : live_at alive i ≡ false → Listed alive (i + 1) old slots many
    listed_same z =
        let e : live_slots alive (suc i) ≡ live_slots alive i = live_more ∙ rw z (append-nil (live_slots alive i)) in
        rw (add-one i) (record { count = rw e m.count; written = rw e m.written })

    pub listed_more : i < length old → live_at alive i ≡ true → Listed alive (i + 1) old (set slots many i) (many + 1)
    listed_more l z =
        let e : live_slots alive (suc i) ≡ live_slots alive i ++ (i ∷ []) = live_more ∙ rw z in
        rw (add-one i)
        (record {
          count = rw (e, length-append (live_slots alive i) (i ∷ [])) (omega (arith, m.count));
          written =
              rw (e, m.count, m.written)
              (sym (over-append (live_slots alive i) (i ∷ []) old ∙ splice-one (length (live_slots alive i)) i (over (live_slots alive i) old)
              (rw (length_over (live_slots alive i) old (omega (arith, few-live i))) (omega (arith, few-live i)))));
        })
