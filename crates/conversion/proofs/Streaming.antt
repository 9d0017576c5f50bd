-- A whole file as a stream. Of `a` to `j` the first letters of a law are what the reader has left, one after the other, and the others what the writer holds: in `parts`
-- `a` to `d` and `e` to `g`.
use Rattle.std.proofs.Common.{◌≡◌, ◌≢◌, ℕ, zero, suc, ◌+◌, ◌*◌, ◌≤◌, ◌<◌, List, [], ◌∷◌, ◌++◌, length, take, drop, Option, None, Some, Ok, Err, IfSome, refl, sym, ap, subst, ◌∙◌, min, arith}
use Rattle.std.proofs.lemmas.List.{take_all, drop-take, length-drop, length-take-le}
use Rattle.std.specs.Io.KnownBytes.{Keeps, Appends}
use Rattle.std.proofs.KnownBytes.{Appends-trans}
use native.Mathlib.Nat.{mul-le-mul}
use lib.Seq.{take-take}
use native.Mathlib.Decide.{dec_le}
use borrow.Author.Tests.{le-ltb, lt-ltb, ltb-false, ne_eqb, eq-eqb}
use Rattle.codes.specs.Packing.{bytes_per_vector}
use Rattle.padding.specs.Padded.{padded_dim}
use Rattle.unit.proofs.Rotatable.{padded-most}
use Rattle.refusal.specs.declared.Refusal.{Refusal}
use Rattle.refusal.specs.Refusal.{number_of}
use Rattle.refusal.proofs.Numbers.{above_0}
use Rattle.index.specs.Step.{first_of}
use Rattle.index.specs.Read.{dim_in, count_in}
use Rattle.index.proofs.Kept.{when-none}
use Rattle.index.proofs.Read.{all-passed, or-none}
use Rattle.streams.specs.declared.Stopped.{Stopped}
use Rattle.streams.specs.declared.Stopped.TheVariants.{Refused, Failed}
use Rattle.streams.specs.Streams.{Filled, Passed}
use Rattle.conversion.specs.Old.{old_header, old_block, old_stages, old_end, old_head_fault, old_body_fault}
use Rattle.conversion.specs.Scales.{halves_of, changes_in}
use Rattle.conversion.specs.Converted.{conversion_refusal, scale_bytes, code_bytes, changed_scales, new_head, no_keys, converted}
use Rattle.conversion.specs.Stream.{Headed, HeadTold, HalvesPassed, ScalesPassed, Answers}
use Rattle.conversion.proofs.Head.{dim-cut, count-cut, fault-cut}

-- ---- the head

-- a sound head has 24 bytes
head-long : (head : List ℕ) → old_head_fault head ≡ 0 → 24 ≤ length head
unfolding old_head_fault
head-long head e = ltb-false (length head) 24 (when-none _ 13 (all-passed _ e).0)

module _ (a b : Option (List ℕ)) (head : List ℕ) (came : ℕ) (size : length head ≡ 24) (read : IfSome a (λ xs. Filled head came xs b)) where
  -- the bytes that came tell what the file does
  fault-told : (xs : List ℕ) → Filled head came xs b → old_head_fault (take came head) ≡ old_head_fault xs
  fault-told xs f = ap old_head_fault (f.bytes ∙ ap (λ n. take n xs) f.many) ∙ go (dec_le 24 (length xs))
    where
      go : Dec (24 ≤ length xs) → old_head_fault (take (min (length head) (length xs)) xs) ≡ old_head_fault xs
      go (yes l) = ap (λ n. old_head_fault (take n xs)) {x = min (length head) (length xs)} {y = 24} (omega arith) ∙ fault-cut xs l
      go (no l) = ap old_head_fault (take_all (min (length head) (length xs)) xs (omega arith))

  pub head-refused : (r : Refusal) → number_of r ≡ old_head_fault (take came head) → IfSome a (λ xs. HeadTold xs (Err (Refused r)) b)
  head-refused r e = known a read
    where
      known : (o : Option (List ℕ)) → IfSome o (λ xs. Filled head came xs b) → IfSome o (λ xs. HeadTold xs (Err (Refused r)) b)
      known None f = tt
      known (Some xs) f = sym (e ∙ fault-told xs f)

  module _ (e : old_head_fault (take came head) ≡ 0) (most : came ≤ length head) where
    all-came : came ≡ 24
    all-came = omega (arith, head-long (take came head) e, length-take-le came head most)

    whole-head : take came head ≡ head
    whole-head = take_all came head (omega (arith, all-came))

    pub head-sound : old_head_fault head ≡ 0
    head-sound = sym (ap old_head_fault whole-head) ∙ e

    pub head-told : IfSome a (λ xs. HeadTold xs (Ok head) b)
    head-told = known a read
      where
        known : (o : Option (List ℕ)) → IfSome o (λ xs. Filled head came xs b) → IfSome o (λ xs. HeadTold xs (Ok head) b)
        known None f = tt
        known (Some xs) f =
            record {
              sound = sym (fault-told xs f) ∙ e;
              long = omega (arith, f.many, all-came);
              first = sym whole-head ∙ f.bytes ∙ ap (λ n. take n xs) all-came;
              rest = f.rest ∙ ap (λ n. Some (drop n xs)) all-came;
            }

-- ---- what follows the head, in order

unfoldable pub limits : (head : List ℕ) → old_head_fault head ≡ 0 → (dim_in head ≤ 4096) × (count_in head ≤ 65536)
unfolding old_head_fault
limits head e =
    let b = or-none _ _ (when-none _ 19 (all-passed _ e).1.1.1.0) in
    (ltb-false 4096 (dim_in head) b.0, ltb-false 65536 (count_in head) b.1)

-- no number of code bytes is too large
pub codes-fit : (head : List ℕ) (n w : ℕ) → n ≡ count_in head → w ≡ old_block head → old_head_fault head ≡ 0 → n * w ≤ 65536 * 4096
unfolding old_header bytes_per_vector
codes-fit head n w en ew e =
    let l = limits head e in
    let few : n ≤ 65536 = omega (arith, en, l.1) in
    let small : w ≤ 4096 = omega (arith, ew, padded-most (dim_in head) l.0) in
    mul-le-mul few small

module _ {file head : List ℕ} {left : Option (List ℕ)} (h : Headed file head left) where
  dim-same : dim_in head ≡ dim_in file
  dim-same = ap dim_in h.first ∙ dim-cut file h.long

  count-same : count_in head ≡ count_in file
  count-same = ap count_in h.first ∙ count-cut file h.long

  block-same : old_block head ≡ old_block file
  unfolding old_header
  block-same = ap (λ n. bytes_per_vector 4 (padded_dim n)) dim-same

  new-head-same : new_head head ≡ new_head file
  new-head-same = ap new_head h.first ∙ ap (λ ys. 0x56 ∷ 0x45 ∷ 0x43 ∷ 0x51 ∷ 3 ∷ 1 ∷ 0 ∷ 0 ∷ ys) (ap (take 16) (drop-take 8 16 file) ∙ take-take 16 16 (drop 8 file) (omega arith))

  stages-long : length (old_stages file) + 24 ≡ length file
  stages-long = omega (arith, h.long, length-drop 24 file)

  -- the refusals that come after the head's
  early : length file < old_end file → conversion_refusal file ≡ 14
  unfolding conversion_refusal old_body_fault first_of
  early l = rw (h.sound, lt-ltb (length file) (old_end file) l)

  no-dim : old_end file ≤ length file → dim_in file ≡ 0 → conversion_refusal file ≡ 17
  unfolding conversion_refusal old_body_fault first_of
  no-dim l z = rw (h.sound, le-ltb (length file) (old_end file) l, eq-eqb (dim_in file) 0 z)

  accepted : old_end file ≤ length file → dim_in file ≢ 0 → conversion_refusal file ≡ 0
  unfolding conversion_refusal old_body_fault first_of
  accepted l z = rw (h.sound, le-ltb (length file) (old_end file) l, ne_eqb (dim_in file) 0 z)

-- the parts of a file that were read one after the other, and written
pub record Parts (file head : List ℕ) (changed came : ℕ) (e f g : Option (List ℕ)) : Type 0 where
  mid : Option (List ℕ)
  left : Option (List ℕ)
  last : Option (List ℕ)
  headed : Headed file head mid
  scales : HalvesPassed (count_in head) changed (old_stages file) left e f
  codes : Passed (count_in head * old_block head) came (drop (count_in head * 4) (old_stages file)) last f g

-- of n scales, and of n blocks of w bytes
pub parts : (a b c d e f g : Option (List ℕ)) (head : List ℕ) (n w : ℕ) (o : Option ℕ) (changed came : ℕ) → n ≡ count_in head → w ≡ old_block head → o ≡ Some changed
    → IfSome a (λ file. HeadTold file (Ok head) b) → IfSome b (λ xs. ScalesPassed n o xs c e f) → IfSome c (λ xs. Passed (n * w) came xs d f g) → IfSome a (λ file. Parts file head changed came e f g)
parts None b c d e f g head n w o changed came en ew eo h s p = tt
parts (Some file) b c d e f g head n w o changed came en ew eo h s p =
    let some : IfSome b (λ xs. HalvesPassed n changed xs c e f) = subst (λ (q : Option ℕ). IfSome b (λ xs. ScalesPassed n q xs c e f)) eo s in
    let scales : HalvesPassed (count_in head) changed (old_stages file) c e f =
    subst (λ k. HalvesPassed k changed (old_stages file) c e f) en (subst (λ (q : Option (List ℕ)). IfSome q (λ xs. HalvesPassed n changed xs c e f)) h.rest some) in
    let ys : List ℕ = drop (count_in head * 4) (old_stages file) in
    let size : n * w ≡ count_in head * old_block head = λ i. en i * ew i in
    record {
      mid = b;
      left = c;
      last = d;
      headed = h;
      scales = scales;
      codes = subst (λ k. Passed k came ys d f g) size (subst (λ (q : Option (List ℕ)). IfSome q (λ xs. Passed (n * w) came xs d f g)) scales.rest p);
    }

module _ {file head : List ℕ} {changed came : ℕ} {e f g : Option (List ℕ)} (p : Parts file head changed came e f g) where
  abbrev n : ℕ
  n = count_in file

  times : count_in head * old_block head ≡ n * old_block file
  times = (λ i. count-same p.headed i * block-same p.headed i)

  cut-long : length (drop (count_in head * 4) (old_stages file)) + (24 + n * 4) ≡ length file
  cut-long =
      omega (
        arith,
        p.scales.enough,
        stages-long p.headed,
        length-drop (count_in head * 4) (old_stages file),
        ap (λ k. k * 4) (count-same p.headed),
      )

  part-short : came < count_in head * old_block head → conversion_refusal file ≡ 14
  part-short l = early p.headed (omega (arith, l, p.codes.many, times, cut-long))

  part-whole : count_in head * old_block head ≤ came → old_end file ≤ length file
  part-whole l = omega (arith, l, p.codes.many, times, cut-long)

  scales-are : take (count_in head * 4) (old_stages file) ≡ scale_bytes file
  scales-are = ap (λ k. take (k * 4) (old_stages file)) (count-same p.headed)

  codes-are : take (count_in head * old_block head) (drop (count_in head * 4) (old_stages file)) ≡ code_bytes file
  codes-are = (λ i. take (times i) (drop (count-same p.headed i * 4) (old_stages file)))

  part-count : changed ≡ changed_scales file
  unfolding changed_scales
  part-count = p.scales.count ∙ ap changes_in scales-are

  part-written : (d h j : Option (List ℕ)) → Appends d e (new_head head) → Appends g h no_keys → Keeps h j → Appends d j (converted file)
  unfolding converted
  part-written d h j first last same =
      let scales = Appends-trans d e f (new_head head) (halves_of (take (count_in head * 4) (old_stages file))) first p.scales.sent in
      let codes = Appends-trans d f g (new_head head ++ halves_of (take (count_in head * 4) (old_stages file))) (take (count_in head * old_block head) (drop (count_in head * 4) (old_stages file))) scales p.codes.sent in
      let all = Appends-trans d g h _ no_keys codes last in
      kept d h j _ (subst (Appends d h) (λ i. new-head-same p.headed i ++ halves_of (scales-are i) ++ codes-are i ++ no_keys) all) same
    where
      kept : (d h j : Option (List ℕ)) (bs : List ℕ) → Appends d h bs → Keeps h j → Appends d j bs
      kept None h j bs s k = tt
      kept (Some x) None j bs s k = absurd s
      kept (Some x) (Some y) None bs s k = absurd k
      kept (Some x) (Some y) (Some z) bs s k = k ∙ s

-- ---- the exits

some-then : (a : Option (List ℕ)) (P Q : List ℕ → Type 0) → ((xs : List ℕ) → P xs → Q xs) → IfSome a P → IfSome a Q
some-then None P Q h p = tt
some-then (Some xs) P Q h p = h xs p

pub head-stopped : (a b : Option (List ℕ)) (s : Stopped) → IfSome a (λ file. HeadTold file (Err s) b) → IfSome a (λ file. Answers file (Err s))
unfolding conversion_refusal first_of
head-stopped None b s h = tt
head-stopped (Some file) b (Failed e) h = tt
head-stopped (Some file) b (Refused r) h = first (old_head_fault file) h
  where
    first : (m : ℕ) → m ≡ number_of r → first_of (m ∷ old_body_fault file ∷ []) ≡ number_of r
    first zero e = absurd (omega (arith, above_0 r))
    first (suc m) e = e

pub scales-short : (a b c e f : Option (List ℕ)) (head : List ℕ) (n : ℕ) (o : Option ℕ) → n ≡ count_in head → ((m : ℕ) → o ≡ Some m → ⊥) → IfSome a (λ file. HeadTold file (Ok head) b)
    → IfSome b (λ xs. ScalesPassed n o xs c e f) → IfSome a (λ file. Answers file (Err (Refused Refusal.EndsEarly)))
scales-short a b c e f head n (Some m) en none h s = absurd (none m refl)
scales-short None b c e f head n None en none h s = tt
scales-short (Some file) b c e f head n None en none h s =
    let less : length (old_stages file) < n * 4 = subst (λ (o : Option (List ℕ)). IfSome o (λ xs. length xs < n * 4)) h.rest s in
    early h (omega (arith, less, stages-long h, ap (λ k. k * 4) (en ∙ count-same h)))

module _ (a e f g : Option (List ℕ)) (head : List ℕ) (n w changed came : ℕ) (en : n ≡ count_in head) (ew : w ≡ old_block head) (p : IfSome a (λ file. Parts file head changed came e f g)) where
  size : n * w ≡ count_in head * old_block head
  size = λ i. en i * ew i

  pub codes-short : came < n * w → IfSome a (λ file. Answers file (Err (Refused Refusal.EndsEarly)))
  codes-short l = some-then a _ (λ file. Answers file (Err (Refused Refusal.EndsEarly))) (λ file q. part-short q (omega (arith, l, size))) p

  module _ (whole : n * w ≤ came) where
    pub dim-refused : dim_in head ≡ 0 → IfSome a (λ file. Answers file (Err (Refused Refusal.FileDims)))
    dim-refused z =
        some-then a _ (λ file. Answers file (Err (Refused Refusal.FileDims)))
        (λ file q. no-dim q.headed (part-whole q (omega (arith, whole, size))) (sym (dim-same q.headed) ∙ z)) p

    pub all-answered : dim_in head ≢ 0 → IfSome a (λ file. Answers file (Ok changed))
    all-answered z =
        some-then a _ (λ file. Answers file (Ok changed))
        (λ file q. (accepted q.headed (part-whole q (omega (arith, whole, size))) (λ y. z (dim-same q.headed ∙ y)), part-count q)) p

  pub all-written : (d h j : Option (List ℕ)) → Appends d e (new_head head) → Appends g h no_keys → Keeps h j → IfSome a (λ file. Appends d j (converted file))
  all-written d h j first last same = some-then a _ (λ file. Appends d j (converted file)) (λ file q. part-written q d h j first last same) p
