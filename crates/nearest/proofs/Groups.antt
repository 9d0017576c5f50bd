-- An array written in groups of 64 places: the distances of the slots whose marks a word has.
use mathlib.Core.Path.{◌≡◌, refl, ap, ◌∙◌}
use mathlib.Core.Bool.{cond}
use mathlib.Core.List.{List, ◌++◌}
use Prim.Native.Nat.{ℕ, ◌+◌, ◌-◌, ◌*◌, ◌≤◌, ◌<◌}
use native.Mathlib.Omega.{arith}
use lib.ListN.{length, take, drop, get_or}
use lib.Seq.{length-take-le, get_or-take, get_or-drop}
use Rattle.std.proofs.lemmas.Grind.{common_steps}
use Rattle.std.proofs.lemmas.List.{get_or_append_left, get_or-append_right}
use Rattle.lists.specs.Lists.{tab, over}
use Rattle.lists.proofs.Laws.{length-tab, get_or-tab, tab-ext}
use Rattle.lists.proofs.Front.{over-ext, get_or-rest}
use Rattle.lists.proofs.Writing.{Written}
use Rattle.marks.specs.Word.{live_in, Lives}
use Rattle.codes.specs.Slots.{block_at}
use Rattle.nearest.specs.Distances.{past}
use Rattle.nearest.specs.Lanes.{lanes_apart, slot_apart}

-- f 0, f 1, .. stand in the first i groups of the first n places; the places from n on are as they were
pub record WrittenGroups (f : ℕ → ℕ) (n i : ℕ) (old xs : List ℕ) : Type 0 where
  pub same : length xs ≡ length old
  pub front : (s : ℕ) → s < i * 64 → s < n → get_or xs s 0 ≡ f s
  pub rest : (s : ℕ) → n ≤ s → get_or xs s 0 ≡ get_or old s 0

pub groups-none : (f : ℕ → ℕ) (n : ℕ) (old : List ℕ) → WrittenGroups f n 0 old old
groups-none f n old = record { same = refl; front = λ s l. absurd (omega arith); rest = λ s l. refl }

module _ (f : ℕ → ℕ) (n : ℕ) (old : List ℕ) (room : n ≤ length old) where
  pub groups-all : {i : ℕ} {xs : List ℕ} → WrittenGroups f n i old xs → n ≤ i * 64 → xs ≡ over (tab f n) old
  groups-all {i} {xs} g l = over-ext f n 0 old xs room g.same (λ s k. g.front s (omega arith) k) (λ s k h. g.rest s k)

  -- `many` places from i * 64 on, put back where they were taken from
  pub groups-more : (i many m : ℕ) (xs ys : List ℕ) → WrittenGroups f n i old xs → i * 64 + many ≤ n → (i * 64 + many < n → many ≡ 64) → m ≡ many → ys ≡ tab (λ k. f (i * 64 + k)) many
      → WrittenGroups f n (i + 1) old (take (i * 64) xs ++ (ys ++ drop m (drop (i * 64) xs)))
  groups-more i many m xs ys g fits whole e written =
      let start = length-take-le (i * 64) xs (omega (arith, g.same)) in
      let few : length ys ≡ many = ap length written ∙ length-tab (λ k. f (i * 64 + k)) many in
      let here : (k : ℕ) → k < many → get_or ys k 0 ≡ f (i * 64 + k) = λ k l. ap (λ (zs : List ℕ). get_or zs k 0) written ∙ get_or-tab (λ k. f (i * 64 + k)) many k 0 l in
      record {
        same = grind (arith, common_steps, few, g.same);
        front = λ s l k. grind (arith, get_or-append_right, get_or_append_left, get_or-take, get_or-drop, few, start, e, whole, g.front s, here (s - i * 64));
        rest = λ s l. grind (arith, get_or-append_right, get_or_append_left, get_or-take, get_or-drop, few, start, e, g.rest s l);
      }

-- the next place is still as it was
pub written-rest : (f : ℕ → ℕ) (n i : ℕ) (old xs : List ℕ) → Written f n i old xs → get_or xs i 0 ≡ get_or old i 0
written-rest f n i old xs m = ap (λ (ys : List ℕ). get_or ys i 0) m.written ∙ get_or-rest (tab f i) old i 0 (omega (arith, length-tab f i))

-- the distances of the slots of a word
pub group-measured : (codes alive : List ℕ) (size : ℕ) (tops : List ℕ) (lanes first live many n : ℕ) → Lives alive first live → many ≤ 64 → n ≡ many →
    tab (λ k. cond (live_in live k) (lanes_apart tops (block_at size (first + k) codes) lanes) past) n ≡ tab (λ k. slot_apart codes alive size tops lanes (first + k)) many
unfolding slot_apart
group-measured codes alive size tops lanes first live many n m h e = rw e (tab-ext _ _ many (λ k l. rw (m.each k (omega arith))))
