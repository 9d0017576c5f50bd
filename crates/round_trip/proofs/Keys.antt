-- Key entries that were written, read back: sound, and each slot has its key.
use mathlib.Core.Path.{◌≡◌, refl, sym, ap, ◌∙◌}
use mathlib.Core.Bool.{Bool, true, false, ◌&&◌}
use mathlib.Core.List.{List, [], ◌∷◌, ◌++◌, map}
use mathlib.Core.Option.{Option, none, some}
use Prim.Native.Nat.{ℕ, zero, suc, ◌+◌, ◌*◌, ◌^◌, ◌≤◌, ◌<◌}
use native.Mathlib.Omega.{arith}
use lib.ListN.{length, take, drop, get_or, length-map, get_or-map}
use lib.Seq.{take-take, drop-drop}
use lib.Dec.{ltb, eqb}
use borrow.Author.Tests.{lt-ltb, eq-eqb, eqb-true, ne_eqb}
use Rattle.lists.specs.Lists.{tab, joined}
use Rattle.lists.specs.Keep.{bit, count, Each}
use Rattle.lists.proofs.Keep.{each_weaken, each-mem, each_both}
use Rattle.lists.proofs.Front.{tab-is, each_map, each_at}
use Rattle.digits.specs.Digits.{number}
use Rattle.index.specs.File.{Entry, le_bytes, key_entries}
use Rattle.index.specs.Read.{little_endian, KeyEntry, entry_from, well_keyed, key_from}
use Rattle.index.proofs.Fits.{each_all}
use Rattle.round_trip.specs.Back.{KeyLow}
use Rattle.round_trip.proofs.Fields.{le-back}
use Rattle.round_trip.proofs.Stages.{cut-back}

-- the entries of slots from i on
unfoldable pub pairs : ℕ → List Entry → List KeyEntry
pairs i [] = []
pairs i (e ∷ es) = elim e.key [ none ↦ pairs (suc i) es | some k ↦ record { slot = i; key = k } ∷ pairs (suc i) es ]

abbrev entry_bytes : KeyEntry → List ℕ
entry_bytes p = le_bytes 4 p.slot ++ le_bytes 8 p.key

abbrev pub slots_of : List KeyEntry → List ℕ
slots_of ps = map (λ p. p.slot) ps

pub entries-are : (i : ℕ) (es : List Entry) → key_entries i es ≡ map entry_bytes (pairs i es)
unfolding key_entries pairs
entries-are i [] = refl
entries-are i (e ∷ es) = go e.key (entries-are (suc i) es)
  where
    go : (o : Option ℕ) → key_entries (suc i) es ≡ map entry_bytes (pairs (suc i) es) →
        key_entries i (record { code = e.code; key = o; year = e.year } ∷ es) ≡ map entry_bytes (pairs i (record { code = e.code; key = o; year = e.year } ∷ es))
    go none ih = ih
    go (some k) ih = ap (λ (bs : List (List ℕ)). (le_bytes 4 i ++ le_bytes 8 k) ∷ bs) ih

-- ---- slots rise from i on

module _ (e : Entry) (es : List Entry) where
  -- whatever holds of the first entry and of all others
  pairs-each : (P : KeyEntry → Type 0) (i : ℕ) → ((k : ℕ) → e.key ≡ some k → P (record { slot = i; key = k })) → Each P (pairs (suc i) es) → Each P (pairs i (e ∷ es))
  unfolding pairs
  pairs-each P i first rest = go e.key refl
    where
      go : (o : Option ℕ) → e.key ≡ o → Each P (elim o [ none ↦ pairs (suc i) es | some k ↦ record { slot = i; key = k } ∷ pairs (suc i) es ])
      go none q = rest
      go (some k) q = (first k q, rest)

within : (i : ℕ) (es : List Entry) → Each (λ p. (i ≤ p.slot) × (p.slot < i + length es)) (pairs i es)
unfolding pairs
within i [] = tt
within i (e ∷ es) =
    pairs-each e es (λ p. (i ≤ p.slot) × (p.slot < i + suc (length es))) i (λ k q. (omega arith, omega arith))
    (each_weaken (λ p. (suc i ≤ p.slot) × (p.slot < suc i + length es)) (λ p. (i ≤ p.slot) × (p.slot < i + suc (length es))) (pairs (suc i) es)
    (λ p h. (omega (arith, h.0), omega (arith, h.1))) (within (suc i) es))

-- numbers that their fields hold
pub pairs-low : (i : ℕ) (es : List Entry) → i + length es ≤ 65536 → Each (λ e. KeyLow e.key) es → Each (λ p. (p.slot < 256 ^ 4) × (p.key < 256 ^ 8)) (pairs i es)
unfolding pairs
pairs-low i [] few h = tt
pairs-low i (e ∷ es) few h =
    pairs-each e es (λ p. (p.slot < 256 ^ 4) × (p.key < 256 ^ 8)) i (λ k q. (omega (arith, few), rw q at h.0)) (pairs-low (suc i) es (omega (arith, few)) h.1)

-- a slot below the first
none_before : (s i : ℕ) (es : List Entry) → s < i → count (eqb s) (slots_of (pairs i es)) ≡ 0
unfolding pairs
none_before s i [] l = refl
none_before s i (e ∷ es) l = go e.key (none_before s (suc i) es (omega arith))
  where
    go : (o : Option ℕ) → count (eqb s) (slots_of (pairs (suc i) es)) ≡ 0 →
        count (eqb s) (slots_of (pairs i (record { code = e.code; key = o; year = e.year } ∷ es))) ≡ 0
    go none ih = ih
    go (some k) ih = omega (arith, ih, ap bit (ne_eqb s i (λ q. absurd (omega (arith, q, l)))))

once : (s i : ℕ) (es : List Entry) → count (eqb s) (slots_of (pairs i es)) ≤ 1
unfolding pairs
once s i [] = omega arith
once s i (e ∷ es) = go e.key (once s (suc i) es)
  where
    go : (o : Option ℕ) → count (eqb s) (slots_of (pairs (suc i) es)) ≤ 1 →
        count (eqb s) (slots_of (pairs i (record { code = e.code; key = o; year = e.year } ∷ es))) ≤ 1
    go none ih = ih
    go (some k) ih = at (eqb s i) refl
      where
        at : (b : Bool) → eqb s i ≡ b → bit b + count (eqb s) (slots_of (pairs (suc i) es)) ≤ 1
        at true q = omega (arith, none_before s (suc i) es (omega (arith, eqb-true s i q)))
        at false q = omega (arith, ih)

own-counted : (xs : List ℕ) → Each (λ t. 0 < count (eqb t) xs) xs
own-counted [] = tt
own-counted (x ∷ xs) =
    (omega (arith, ap bit (eq-eqb x x refl)), each_weaken (λ t. 0 < count (eqb t) xs) (λ t. 0 < bit (eqb t x) + count (eqb t) xs) xs (λ t h. omega (arith, h)) (own-counted xs))

pub well-back : (es : List Entry) → well_keyed (length es) (slots_of (pairs 0 es)) ≡ true
well-back es =
    let ss : List ℕ = slots_of (pairs 0 es) in
    each_all (λ s. ltb s (length es) && eqb (count (eqb s) ss) 1) ss
    (each_weaken (λ t. (t < length es) × (0 < count (eqb t) ss)) (λ t. (ltb t (length es) && eqb (count (eqb t) ss) 1) ≡ true) ss
    (λ t h. rw (lt-ltb t (length es) h.0) (eq-eqb (count (eqb t) ss) 1 (omega (arith, h.1, once t 0 es))))
    (each_both (λ t. t < length es) (λ t. 0 < count (eqb t) ss) ss
    (each_map (λ t. t < length es) (λ p. p.slot) (pairs 0 es)
    (each_weaken (λ p. (0 ≤ p.slot) × (p.slot < 0 + length es)) (λ p. p.slot < length es) (pairs 0 es) (λ p h. omega (arith, h.1)) (within 0 es)))
    (own-counted ss)))

-- ---- the key of a slot

not_yet : (s i : ℕ) (es : List Entry) → s < i → key_from (pairs i es) s ≡ none
unfolding pairs key_from
not_yet s i [] l = refl
not_yet s i (e ∷ es) l = go e.key (not_yet s (suc i) es (omega arith))
  where
    go : (o : Option ℕ) → key_from (pairs (suc i) es) s ≡ none → key_from (pairs i (record { code = e.code; key = o; year = e.year } ∷ es)) s ≡ none
    go none ih = ih
    go (some k) ih = rw (ne_eqb i s (λ q. absurd (omega (arith, q, l)))) ih

key-from : (i j : ℕ) (es : List Entry) (d : Entry) → j < length es → key_from (pairs i es) (i + j) ≡ (get_or es j d).key
unfolding pairs key_from
key-from i j [] d l = absurd (omega arith)
key-from i zero (e ∷ es) d l = go e.key
  where
    go : (o : Option ℕ) → key_from (pairs i (record { code = e.code; key = o; year = e.year } ∷ es)) (i + 0) ≡ o
    go none = not_yet (i + 0) (suc i) es (omega arith)
    go (some k) = rw (eq-eqb i (i + 0) (omega arith))
key-from i (suc j) (e ∷ es) d l = go e.key (key-from (suc i) j es d (omega arith))
  where
    same : i + suc j ≡ suc i + j
    same = omega arith

    go : (o : Option ℕ) → key_from (pairs (suc i) es) (suc i + j) ≡ (get_or es j d).key →
        key_from (pairs i (record { code = e.code; key = o; year = e.year } ∷ es)) (i + suc j) ≡ (get_or es j d).key
    go none ih = ap (key_from (pairs (suc i) es)) same ∙ ih
    go (some k) ih = rw (ne_eqb i (i + suc j) (λ q. absurd (omega (arith, q)))) (ap (key_from (pairs (suc i) es)) same ∙ ih)

pub key_back : (j : ℕ) (es : List Entry) (d : Entry) → j < length es → key_from (pairs 0 es) j ≡ (get_or es j d).key
key_back j es d l = let z : j ≡ 0 + j = omega arith in ap (key_from (pairs 0 es)) z ∙ key-from 0 j es d l

-- ---- the bytes of a table, whatever follows it

module _ (k : ℕ) (ps : List KeyEntry) (rest : List ℕ) (low : Each (λ p. (p.slot < 256 ^ 4) × (p.key < 256 ^ 8)) ps) where
  abbrev table : List ℕ
  table = le_bytes 4 k ++ (joined (map entry_bytes ps) ++ rest)

  cut_at : (i : ℕ) (d : KeyEntry) → i < length ps → take 12 (drop (4 + i * 12) table) ≡ entry_bytes (get_or ps i d)
  cut_at i d l =
      ap (take 12) (sym (drop-drop (i * 12) 4 table))
      ∙ cut-back 12 (map entry_bytes ps) rest (each_map (λ b. length b ≡ 12) entry_bytes ps (each-mem (λ p. length (entry_bytes p) ≡ 12) ps (λ p m. refl))) i (entry_bytes d)
      (rw (length-map ps entry_bytes) l)
      ∙ get_or-map entry_bytes ps i d

  entry_at : (i : ℕ) (d : KeyEntry) → i < length ps → entry_from table i ≡ get_or ps i d
  unfolding entry_from little_endian
  entry_at i d l =
      let p : KeyEntry = get_or ps i d in
      let fits = each_at (λ p. (p.slot < 256 ^ 4) × (p.key < 256 ^ 8)) ps i d low l in
      let slot : little_endian 4 (drop (4 + i * 12) table) ≡ p.slot =
      ap (number 256) (sym (take-take 4 12 (drop (4 + i * 12) table) (omega arith)) ∙ ap (take 4) (cut_at i d l)) ∙ le-back 4 p.slot (le_bytes 8 p.key) fits.0 in
      let key : little_endian 8 (drop (8 + i * 12) table) ≡ p.key =
      ap (number 256) (key-part i ∙ ap (drop 4) (cut_at i d l)) ∙ le-back 8 p.key [] fits.1 in
      λ j. record { slot = slot j; key = key j }
    where
      -- eight bytes from the fifth on of twelve
      part : (xs : List ℕ) → take 8 (drop 4 xs) ≡ drop 4 (take 12 xs)
      part [] = refl
      part (x ∷ []) = refl
      part (x ∷ y ∷ []) = refl
      part (x ∷ y ∷ z ∷ []) = refl
      part (x ∷ y ∷ z ∷ u ∷ xs) = refl

      key-part : (i : ℕ) → take 8 (drop (8 + i * 12) table) ≡ drop 4 (take 12 (drop (4 + i * 12) table))
      key-part i =
          ap (λ (n : ℕ). take 8 (drop n table)) (let e : 8 + i * 12 ≡ 4 + i * 12 + 4 = omega arith in e)
          ∙ ap (take 8) (sym (drop-drop 4 (4 + i * 12) table)) ∙ part (drop (4 + i * 12) table)

  pub table-back : tab (entry_from table) (length ps) ≡ ps
  table-back = tab-is (entry_from table) ps (λ i d l. entry_at i d l)
