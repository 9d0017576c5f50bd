-- What stands in lent results after a list or bytes were written over their first places: these are the answer, and the later places are kept.
use mathlib.Core.Path.{◌≡◌, sym, ap, subst, ◌∙◌}
use mathlib.Core.List.{List, map}
use Prim.Native.Nat.{ℕ, ◌<◌}
use native.Mathlib.Omega.{arith}
use lib.ListN.{length, length-map, get_or, drop}
use lib.Ieee.{Float}
use Rattle.pattern.specs.Binary32.{+0}
use Rattle.lists.specs.Lists.{over}
use Rattle.lists.proofs.Laws.{get_d_default, length-tab, get_or-tab}
use Rattle.lists.proofs.Front.{get_d_front, get_or-over-map, drop-over, front_rest, tab-is}
use Rattle.std.specs.Prelude.{Result, Ok, Err}
use Rattle.refusal.specs.declared.Refusal.{Refusal}
use Rattle.refusal.specs.Refusal.{number_of}
use Rattle.refusal.proofs.Numbers.{same-number}
use Rattle.index.specs.Verdict.{Verdict, granted, turned_down, verdict}
use Rattle.index.specs.Step.{refused, hits, key_hits, bytes}
use Rattle.index.specs.Answers.{how_many, first_entries, first_pairs, found, found_keyed, wrote, LaterKept}

module _ (es : List (ℕ × Float)) (ns : List ℕ) (ss : List Float) where
  first-pairs : first_pairs (length es) (over (map (λ e. e.0) es) ns) (over (map (λ e. e.1) es) ss) ≡ es
  first-pairs =
      tab-is (λ i. (get_or (over (map (λ e. e.0) es) ns) i 0, get_or (over (map (λ e. e.1) es) ss) i +0)) es
      (λ i d l j. (get_or-over-map (λ e. e.0) es ns i d 0 l j, get_or-over-map (λ e. e.1) es ss i d +0 l j))

  pub pairs-there : (m : ℕ) (ms : List ℕ) (ts : List Float) → m ≡ length es → ms ≡ over (map (λ e. e.0) es) ns → ts ≡ over (map (λ e. e.1) es) ss →
      (first_pairs m ms ts ≡ es) × (LaterKept m ns ms × LaterKept m ss ts)
  pairs-there m ms ts e f g = (
    (λ j. first_pairs (e j) (f j) (g j)) ∙ first-pairs,
    (
      ap (drop m) f ∙ drop-over (map (λ e. e.0) es) ns m (e ∙ sym (length-map es (λ e. e.0))),
      ap (drop m) g ∙ drop-over (map (λ e. e.1) es) ss m (e ∙ sym (length-map es (λ e. e.1))),
    ),
  )

module _ (bs file : List ℕ) where
  first-entries : first_entries (length bs) (over bs file) ≡ bs
  first-entries = tab-is (λ i. get_or (over bs file) i 0) bs (λ i d l. get_d_front bs file i 0 l ∙ get_d_default bs i 0 d l)

  pub entries-there : (m : ℕ) (next : List ℕ) → m ≡ length bs → next ≡ over bs file → (first_entries m next ≡ bs) × LaterKept m file next
  entries-there m next e f = ((λ j. first_entries (e j) (f j)) ∙ first-entries, ap (drop m) f ∙ drop-over bs file m e)

-- ---- so they are determined: by the answer, and by what the slices held before

-- what is left after a call in slices that held ns and ss
pub record Left (ns : List ℕ) (ss : List Float) (r : Verdict ℕ) (ms : List ℕ) (ts : List Float) : Type 0 where
  pub numbers-long : length ms ≡ length ns
  pub scores-long : length ts ≡ length ss
  pub numbers-kept : LaterKept (how_many r) ns ms
  pub scores-kept : LaterKept (how_many r) ss ts

module _ (ns : List ℕ) (ss : List Float) (ms ms' : List ℕ) (ts ts' : List Float) where
  abbrev Same : (r r' : Verdict ℕ) → Type 0
  Same r r' = (r ≡ r') × ((ms ≡ ms') × (ts ≡ ts'))

  same-hits : (m m' : ℕ) → Left ns ss (granted m) ms ts → Left ns ss (granted m') ms' ts' → first_pairs m ms ts ≡ first_pairs m' ms' ts' → Same (granted m) (granted m')
  same-hits m m' l l' e = (
    ap granted many,
    (
      front_rest m 0 ms ms' (l.numbers-long ∙ sym l'.numbers-long) (λ i h. ap (λ (p : ℕ × Float). p.0) (at i h))
          (l.numbers-kept ∙ ap (λ (n : ℕ). drop n ns) many ∙ sym l'.numbers-kept ∙ ap (λ (n : ℕ). drop n ms') (sym many)),
      front_rest m +0 ts ts' (l.scores-long ∙ sym l'.scores-long) (λ i h. ap (λ (p : ℕ × Float). p.1) (at i h))
          (l.scores-kept ∙ ap (λ (n : ℕ). drop n ss) many ∙ sym l'.scores-kept ∙ ap (λ (n : ℕ). drop n ts') (sym many)),
    ),
  )
    where
      pair : ℕ → ℕ × Float
      pair i = (get_or ms i 0, get_or ts i +0)

      pair' : ℕ → ℕ × Float
      pair' i = (get_or ms' i 0, get_or ts' i +0)

      many : m ≡ m'
      many = sym (length-tab pair m) ∙ ap length e ∙ length-tab pair' m'

      at : (i : ℕ) → i < m → pair i ≡ pair' i
      at i h =
          sym (get_or-tab pair m i (0, +0) h) ∙ ap (λ (es : List (ℕ × Float)). get_or es i (0, +0)) e
          ∙ get_or-tab pair' m' i (0, +0) (subst (λ (n : ℕ). i < n) many h)

  same-refused : (n n' : ℕ) → Left ns ss (turned_down n) ms ts → Left ns ss (turned_down n') ms' ts' → n ≡ n' → Same (turned_down n) (turned_down n')
  same-refused n n' l l' e = (ap turned_down e, (l.numbers-kept ∙ sym l'.numbers-kept, l.scores-kept ∙ sym l'.scores-kept))

  pub found-determines : (r r' : Verdict ℕ) → Left ns ss r ms ts → Left ns ss r' ms' ts' → found r ms ts ≡ found r' ms' ts' → Same r r'
  found-determines (granted m) (granted m') l l' e = same-hits m m' l l' (let f : hits (first_pairs m ms ts) ≡ hits (first_pairs m' ms' ts') = e in cc)
  found-determines (turned_down n) (turned_down n') l l' e = same-refused n n' l l' (let f : refused n ≡ refused n' = e in cc)
  found-determines (granted m) (turned_down n) l l' e = absurd (let f : hits (first_pairs m ms ts) ≡ refused n = e in let z : ◌≡◌ {A = ℕ} 0 1 = cc in omega arith)
  found-determines (turned_down n) (granted m) l l' e = absurd (let f : refused n ≡ hits (first_pairs m ms' ts') = e in let z : ◌≡◌ {A = ℕ} 0 1 = cc in omega arith)

  pub keyed-determines : (r r' : Verdict ℕ) → Left ns ss r ms ts → Left ns ss r' ms' ts' → found_keyed r ms ts ≡ found_keyed r' ms' ts' → Same r r'
  keyed-determines (granted m) (granted m') l l' e = same-hits m m' l l' (let f : key_hits (first_pairs m ms ts) ≡ key_hits (first_pairs m' ms' ts') = e in cc)
  keyed-determines (turned_down n) (turned_down n') l l' e = same-refused n n' l l' (let f : refused n ≡ refused n' = e in cc)
  keyed-determines (granted m) (turned_down n) l l' e = absurd (let f : key_hits (first_pairs m ms ts) ≡ refused n = e in let z : ◌≡◌ {A = ℕ} 0 1 = cc in omega arith)
  keyed-determines (turned_down n) (granted m) l l' e = absurd (let f : refused n ≡ key_hits (first_pairs m ms' ts') = e in let z : ◌≡◌ {A = ℕ} 0 1 = cc in omega arith)

-- the same of a file
module _ (file next next' : List ℕ) (long : length next ≡ length file) (long' : length next' ≡ length file) where
  same_bytes : (m m' : ℕ) → LaterKept m file next → LaterKept m' file next' → first_entries m next ≡ first_entries m' next' →
      (granted m ≡ granted m') × (next ≡ next')
  same_bytes m m' l l' e = (
    ap granted many,
    front_rest m 0 next next' (long ∙ sym long')
        (λ i h. sym (get_or-tab (λ i. get_or next i 0) m i 0 h) ∙ ap (λ (bs : List ℕ). get_or bs i 0) e ∙ get_or-tab (λ i. get_or next' i 0) m' i 0 (subst (λ (n : ℕ). i < n) many h))
        (l ∙ ap (λ (n : ℕ). drop n file) many ∙ sym l' ∙ ap (λ (n : ℕ). drop n next') (sym many)),
  )
    where
      many : m ≡ m'
      many = sym (length-tab (λ i. get_or next i 0) m) ∙ ap length e ∙ length-tab (λ i. get_or next' i 0) m'

  pub wrote-determines : (r r' : Verdict ℕ) → LaterKept (how_many r) file next → LaterKept (how_many r') file next' → wrote r next ≡ wrote r' next' → (r ≡ r') × (next ≡ next')
  wrote-determines (granted m) (granted m') l l' e = same_bytes m m' l l' (let f : bytes (first_entries m next) ≡ bytes (first_entries m' next') = e in cc)
  wrote-determines (turned_down n) (turned_down n') l l' e = (ap turned_down (let f : refused n ≡ refused n' = e in cc), l ∙ sym l')
  wrote-determines (granted m) (turned_down n) l l' e = absurd (let f : bytes (first_entries m next) ≡ refused n = e in let z : ◌≡◌ {A = ℕ} 0 1 = cc in omega arith)
  wrote-determines (turned_down n) (granted m) l l' e = absurd (let f : refused n ≡ bytes (first_entries m next') = e in let z : ◌≡◌ {A = ℕ} 0 1 = cc in omega arith)

-- ---- and with its verdict the answer of the code

pub same-verdict : {A : Type 0} (r r' : Result A Refusal) → verdict r ≡ verdict r' → r ≡ r'
same-verdict (Ok x) (Ok y) e = ap Ok (let f : granted x ≡ granted y = e in cc)
same-verdict (Err r) (Err r') e = ap Err (same-number r r' (let f : turned_down (number_of r) ≡ turned_down (number_of r') = e in cc))
same-verdict (Ok x) (Err r) e = absurd (let f : granted x ≡ turned_down (number_of r) = e in let z : ◌≡◌ {A = ℕ} 0 1 = cc in omega arith)
same-verdict (Err r) (Ok x) e = absurd (let f : turned_down (number_of r) ≡ granted x = e in let z : ◌≡◌ {A = ℕ} 0 1 = cc in omega arith)

module _ (ns : List ℕ) (ss : List Float) (ms ms' : List ℕ) (ts ts' : List Float) (r r' : Result ℕ Refusal) (l : Left ns ss (verdict r) ms ts) (l' : Left ns ss (verdict r') ms' ts') where
  pub found-answer : found (verdict r) ms ts ≡ found (verdict r') ms' ts' → (r ≡ r') × ((ms ≡ ms') × (ts ≡ ts'))
  found-answer e = let d = found-determines ns ss ms ms' ts ts' (verdict r) (verdict r') l l' e in (same-verdict r r' d.0, d.1)

  pub keyed-answer : found_keyed (verdict r) ms ts ≡ found_keyed (verdict r') ms' ts' → (r ≡ r') × ((ms ≡ ms') × (ts ≡ ts'))
  keyed-answer e = let d = keyed-determines ns ss ms ms' ts ts' (verdict r) (verdict r') l l' e in (same-verdict r r' d.0, d.1)

pub wrote-answer : (file next next' : List ℕ) → length next ≡ length file → length next' ≡ length file → (r r' : Result ℕ Refusal) →
    LaterKept (how_many (verdict r)) file next → LaterKept (how_many (verdict r')) file next' → wrote (verdict r) next ≡ wrote (verdict r') next' → (r ≡ r') × (next ≡ next')
wrote-answer file next next' long long' r r' k k' e =
    let d = wrote-determines file next next' long long' (verdict r) (verdict r') k k' e in
    (same-verdict r r' d.0, d.1)
