-- One of the slots of an array written anew.
use mathlib.Core.Path.{◌≡◌, sym, ap, ◌∙◌}
use mathlib.Core.List.{List, [], ◌∷◌, ◌++◌, map, append_assoc}
use Prim.Native.Nat.{ℕ, zero, suc, ◌+◌, ◌*◌, ◌<◌}
use native.Mathlib.Nat.{suc-mul, zero-mul}
use native.Mathlib.Omega.{arith}
use lib.ListN.{length, set, take, drop, length-set, length-map}
use lib.Seq.{take-append-add, drop-append-add, drop_at, set-append_left}
use Rattle.std.proofs.lemmas.List.{map-set}
use Rattle.lists.specs.Lists.{over, splice, joined}
use Rattle.lists.specs.Keep.{Each}
use Rattle.lists.proofs.Front.{each_map}
use Rattle.codes.specs.Stage.{Stage}
use Rattle.encode.specs.declared.Header.{Header}
use Rattle.encode.specs.Header.{block_size}
use Rattle.index.specs.State.{scales_of, blocks_of}
use Rattle.index.proofs.Blocks.{length-joined}

-- ---- one entry

pub each_set : {A : Type 0} (P : A → Type 0) (xs : List A) (i : ℕ) (y : A) → Each P xs → P y → Each P (set xs i y)
each_set P [] i y h p = tt
each_set P (x ∷ xs) zero y h p = (p, h.1)
each_set P (x ∷ xs) (suc i) y h p = (h.0, each_set P xs i y h.1 p)

pub over-set : {A : Type 0} (ys xs : List A) (i : ℕ) (y : A) → i < length ys → over (set ys i y) xs ≡ set (over ys xs) i y
unfolding over
over-set ys xs i y l = ap (λ (n : ℕ). set ys i y ++ drop n xs) (length-set ys i y) ∙ sym (set-append_left ys (drop (length ys) xs) i y l)

-- ---- one block

-- at the front, and past a part that stays
splice_front : (b c zs : List ℕ) → length b ≡ length c → splice 0 b (c ++ zs) ≡ b ++ zs
unfolding splice
splice_front b c zs e = ap (λ (d : List ℕ). b ++ d) (drop_at c zs (0 + length b) (omega arith))

splice-past : (c b zs : List ℕ) (n : ℕ) → splice (length c + n) b (c ++ zs) ≡ c ++ splice n b zs
unfolding splice
splice-past c b zs n =
    let m : length c + n + length b ≡ length c + (n + length b) = omega arith in
    let rest : drop (length c + n + length b) (c ++ zs) ≡ drop (n + length b) zs = ap (λ (k : ℕ). drop k (c ++ zs)) m ∙ drop-append-add c zs (n + length b) in
    (λ j. (take-append-add c zs n j ++ b) ++ rest j) ∙ ap (λ (l : List ℕ). l ++ drop (n + length b) zs) (append_assoc c (take n zs) b)
    ∙ append_assoc c (take n zs ++ b) (drop (n + length b) zs)

module _ (w : ℕ) where
  joined-set : (bs : List (List ℕ)) (i : ℕ) (b rest : List ℕ) → Each (λ c. length c ≡ w) bs → length b ≡ w → i < length bs →
      joined (set bs i b) ++ rest ≡ splice (i * w) b (joined bs ++ rest)
  unfolding joined
  joined-set [] i b rest h e l = absurd (omega arith)
  joined-set (c ∷ bs) zero b rest h e l =
      append_assoc b (joined bs) rest ∙ sym (splice_front b c (joined bs ++ rest) (e ∙ sym h.0))
      ∙ (λ j. splice (sym (zero-mul w) j) b (sym (append_assoc c (joined bs) rest) j))
  joined-set (c ∷ bs) (suc i) b rest h e l =
      let at : length c + i * w ≡ suc i * w = omega (arith, suc-mul i w, h.0) in
      append_assoc c (joined (set bs i b)) rest ∙ ap (λ (zs : List ℕ). c ++ zs) (joined-set bs i b rest h.1 e (omega arith))
      ∙ sym (splice-past c b (joined bs ++ rest) (i * w)) ∙ (λ j. splice (at j) b (sym (append_assoc c (joined bs) rest) j))

  over-joined-set : (bs : List (List ℕ)) (xs : List ℕ) (i : ℕ) (b : List ℕ) → Each (λ c. length c ≡ w) bs → length b ≡ w → i < length bs →
      over (joined (set bs i b)) xs ≡ splice (i * w) b (over (joined bs) xs)
  unfolding over
  over-joined-set bs xs i b h e l =
      let same : length (joined (set bs i b)) ≡ length (joined bs) =
      length-joined w (set bs i b) (each_set (λ c. length c ≡ w) bs i b h e) ∙ ap (λ (m : ℕ). m * w) (length-set bs i b) ∙ sym (length-joined w bs h) in
      ap (λ (n : ℕ). joined (set bs i b) ++ drop n xs) same ∙ joined-set bs i b (drop (length (joined bs)) xs) h e l

-- ---- one stage

module _ (h : Header) (gs : List Stage) (g : Stage) (i : ℕ) (l : i < length gs) (xs : List ℕ) where
  pub blocks-set : Each (λ e. length e.block ≡ block_size h) gs → length g.block ≡ block_size h →
      over (blocks_of (set gs i g)) xs ≡ splice (i * block_size h) g.block (over (blocks_of gs) xs)
  blocks-set sized own =
      ap (λ bs. over (joined bs) xs) (map-set (λ (e : Stage). e.block) gs i g)
      ∙ over-joined-set (block_size h) (map (λ (e : Stage). e.block) gs) xs i g.block (each_map (λ b. length b ≡ block_size h) (λ e. e.block) gs sized) own (rw (length-map gs (λ (e : Stage). e.block)) l)

  pub scales-set : over (scales_of (set gs i g)) xs ≡ set (over (scales_of gs) xs) i g.scale
  scales-set =
      ap (λ zs. over zs xs) (map-set (λ (e : Stage). e.scale) gs i g)
      ∙ over-set (map (λ (e : Stage). e.scale) gs) xs i g.scale (rw (length-map gs (λ (e : Stage). e.scale)) l)
