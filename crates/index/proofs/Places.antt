-- Slots written over the arrays one by one: what an append and a compaction do.
use mathlib.Core.Path.{◌≡◌, refl, sym, ap, ◌∙◌}
use mathlib.Core.Bool.{Bool, true, false}
use mathlib.Core.List.{List, [], ◌∷◌, ◌++◌, map, map-append, append-nil}
use mathlib.Core.Option.{Option, none, some}
use Prim.Native.Nat.{ℕ, suc, ◌*◌, ◌≤◌, ◌<◌}
use native.Mathlib.Omega.{arith}
use lib.ListN.{length, set, length-map}
use Rattle.lists.specs.Lists.{over, splice, joined}
use Rattle.lists.specs.Keep.{Each}
use Rattle.lists.proofs.Laws.{length_over}
use Rattle.lists.proofs.Keep.{each_append, each_weaken}
use Rattle.lists.proofs.Front.{splice-one, over-append, each_map}
use Rattle.encode.specs.declared.Header.{Header}
use Rattle.encode.specs.Header.{block_size}
use Rattle.codes.specs.Stage.{Stage}
use Rattle.index.specs.Arrays.{Arrays}
use Rattle.index.specs.State.{Slot, capacity, alive_of, has_key, key_word, position, seconds, scales_of, blocks_of, overlay, put_slot}
use Rattle.index.specs.Sound.{Shaped, AllShaped}
use Rattle.index.proofs.Blocks.{joined-append, length-joined}
use Rattle.index.proofs.Overlay.{roomy, plain-none, residual-some, plain-seconds, residual-seconds, second_of}

-- one more entry of an array of one entry a slot
over-entry : {A B : Type 0} (g : A → B) (ys : List A) (y : A) (xs : List B) → length ys < length xs → over (map g (ys ++ (y ∷ []))) xs ≡ set (over (map g ys) xs) (length ys) (g y)
over-entry g ys y xs l =
    ap (λ zs. over zs xs) (map-append g ys (y ∷ [])) ∙ over-append (map g ys) (g y ∷ []) xs
    ∙ splice-one (length (map g ys)) (g y) (over (map g ys) xs) (rw (length-map ys g, length_over (map g ys) xs (rw (length-map ys g) (omega arith))) l)
    ∙ ap (λ (n : ℕ). set (over (map g ys) xs) n (g y)) (length-map ys g)

module _ (h : Header) where
  -- one more block
  over-block : (gs : List Stage) (g : Stage) (xs : List ℕ) → Each (λ e. length e.block ≡ block_size h) gs →
      over (blocks_of (gs ++ (g ∷ []))) xs ≡ splice (length gs * block_size h) g.block (over (blocks_of gs) xs)
  unfolding joined
  over-block gs g xs sized =
      let bs = map (λ (e : Stage). e.block) gs in
      let n : length (joined bs) ≡ length gs * block_size h =
      length-joined (block_size h) bs (each_map (λ b. length b ≡ block_size h) (λ e. e.block) gs sized) ∙ ap (λ (m : ℕ). m * block_size h) (length-map gs (λ e. e.block)) in
      ap (λ zs. over zs xs) (ap joined (map-append (λ (e : Stage). e.block) gs (g ∷ [])) ∙ joined-append bs (g.block ∷ []) ∙ ap (λ zs. joined bs ++ zs) (append-nil g.block))
      ∙ over-append (joined bs) g.block xs ∙ ap (λ (m : ℕ). splice m g.block (over (joined bs) xs)) n

  -- one more stage, in the array of scales and in that of blocks, after n others
  module _ (n : ℕ) (gs : List Stage) (g : Stage) (many : length gs ≡ n) where
    scale-more : (xs : List ℕ) → n < length xs → over (scales_of (gs ++ (g ∷ []))) xs ≡ set (over (scales_of gs) xs) n g.scale
    scale-more xs l = over-entry (λ (e : Stage). e.scale) gs g xs (rw many l) ∙ ap (λ (m : ℕ). set (over (scales_of gs) xs) m g.scale) many

    block_more : (xs : List ℕ) → Each (λ e. length e.block ≡ block_size h) gs → over (blocks_of (gs ++ (g ∷ []))) xs ≡ splice (n * block_size h) g.block (over (blocks_of gs) xs)
    block_more xs sized = over-block gs g xs sized ∙ ap (λ (m : ℕ). splice (m * block_size h) g.block (over (blocks_of gs) xs)) many

seconds-append : (ss ts : List Slot) → seconds (ss ++ ts) ≡ seconds ss ++ seconds ts
unfolding seconds
seconds-append [] ts = refl
seconds-append (s ∷ ss) ts = go s.code.second (seconds-append ss ts)
  where
    go : (o : Option Stage) → seconds (ss ++ ts) ≡ seconds ss ++ seconds ts → elim o [ none ↦ seconds (ss ++ ts) | some g ↦ g ∷ seconds (ss ++ ts) ] ≡ elim o [ none ↦ seconds ss | some g ↦ g ∷ seconds ss ] ++ seconds ts
    go none e = e
    go (some g) e = ap (λ gs. g ∷ gs) e

module _ (h : Header) (a : Arrays) (ss : List Slot) (s : Slot) (shape : AllShaped h ss) (own : Shaped h s.code) (space : suc (length ss) ≤ capacity h a) where
  abbrev firsts : List Stage
  firsts = map (λ (t : Slot). t.code.first) ss

  abbrev n : ℕ
  n = length ss

  firsts-sized : Each (λ g. length g.block ≡ block_size h) firsts
  firsts-sized = each_map (λ g. length g.block ≡ block_size h) (λ t. t.code.first) ss (each_weaken (λ t. Shaped h t.code) (λ t. length t.code.first.block ≡ block_size h) ss (λ t c. c.first) shape)

  first_more : map (λ (t : Slot). t.code.first) (ss ++ (s ∷ [])) ≡ firsts ++ (s.code.first ∷ [])
  first_more = map-append (λ (t : Slot). t.code.first) ss (s ∷ [])

  none_more : h.residual ≡ false → seconds (ss ++ (s ∷ [])) ≡ seconds ss
  none_more e = plain-seconds h e (ss ++ (s ∷ [])) (each_append (λ t. Shaped h t.code) ss (s ∷ []) shape (own, tt)) ∙ sym (plain-seconds h e ss shape)

  module _ (e : h.residual ≡ true) where
    second : s.code.second ≡ some (second_of s)
    second = (residual-some h e s own).0

    one_more : seconds (ss ++ (s ∷ [])) ≡ seconds ss ++ (second_of s ∷ [])
    one_more = seconds-append ss (s ∷ []) ∙ ap (λ gs. seconds ss ++ gs) (residual-seconds h e (s ∷ []) (own, tt))

    many2 : length (seconds ss) ≡ n
    many2 = ap length (residual-seconds h e ss shape) ∙ length-map ss second_of

    sized2 : Each (λ g. length g.block ≡ block_size h) (seconds ss)
    sized2 = rw (residual-seconds h e ss shape) (each_map (λ g. length g.block ≡ block_size h) second_of ss (each_weaken (λ t. Shaped h t.code) (λ t. length (second_of t).block ≡ block_size h) ss (λ t c. (residual-some h e t c).1) shape))

  abbrev block_if : Option Stage → List ℕ
  block_if o = elim o [ none ↦ over (blocks_of (seconds ss)) a.codes2 | some e ↦ splice (n * block_size h) e.block (over (blocks_of (seconds ss)) a.codes2) ]

  abbrev ScaleIf : Option Stage → List ℕ
  ScaleIf o = elim o [ none ↦ over (scales_of (seconds ss)) a.scales2 | some e ↦ set (over (scales_of (seconds ss)) a.scales2) n e.scale ]

  second-blocks : (b : Bool) → h.residual ≡ b → over (blocks_of (seconds (ss ++ (s ∷ [])))) a.codes2 ≡ block_if s.code.second
  second-blocks true e =
      ap (λ gs. over (blocks_of gs) a.codes2) (one_more e) ∙ block_more h n (seconds ss) (second_of s) (many2 e) a.codes2 (sized2 e) ∙ sym (ap block_if (second e))
  second-blocks false e = ap (λ gs. over (blocks_of gs) a.codes2) (none_more e) ∙ sym (ap block_if (plain-none h e s own))

  second-scales : (b : Bool) → h.residual ≡ b → over (scales_of (seconds (ss ++ (s ∷ [])))) a.scales2 ≡ ScaleIf s.code.second
  second-scales true e =
      ap (λ gs. over (scales_of gs) a.scales2) (one_more e) ∙ scale-more h n (seconds ss) (second_of s) (many2 e) a.scales2 ((roomy (suc n) h a space).scales2 e)
      ∙ sym (ap ScaleIf (second e))
  second-scales false e = ap (λ gs. over (scales_of gs) a.scales2) (none_more e) ∙ sym (ap ScaleIf (plain-none h e s own))

  pub overlay-more : overlay a (ss ++ (s ∷ [])) ≡ put_slot h (overlay a ss) n s
  unfolding overlay put_slot
  overlay-more =
      let r = roomy (suc n) h a space in
      let many = length-map ss (λ (t : Slot). t.code.first) in
      λ j. record {
        codes = (ap (λ gs. over (blocks_of gs) a.codes) first_more ∙ block_more h n firsts s.code.first many a.codes firsts-sized) j;
        scales = (ap (λ gs. over (scales_of gs) a.scales) first_more ∙ scale-more h n firsts s.code.first many a.scales r.scales) j;
        keys = over-entry (λ (t : Slot). key_word t.mark) ss s a.keys r.keys j;
        keyed = over-entry (λ (t : Slot). has_key t.mark) ss s a.keyed r.keyed j;
        held = over-entry (λ (t : Slot). position t.mark) ss s a.held r.held j;
        alive = over-entry (λ (t : Slot). alive_of t.mark) ss s a.alive r.alive j;
        codes2 = second-blocks h.residual refl j;
        scales2 = second-scales h.residual refl j;
        years = over-entry (λ (t : Slot). t.year) ss s a.years r.years j;
      }
