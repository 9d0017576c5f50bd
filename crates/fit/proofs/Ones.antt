-- Document 02, Req 02: "The live count is the count of ones." Of one word, and of words one after the other.
use mathlib.Core.Path.{◌≡◌, refl, sym, ap, subst, ◌∙◌}
use mathlib.Core.Bool.{Bool}
use mathlib.Core.List.{List}
use Prim.Native.Nat.{ℕ, zero, suc, ◌+◌, ◌*◌, ◌/◌, ◌^◌, ◌≤◌, ◌<◌}
use native.Mathlib.Nat.{div-one, div-eq_of_lt}
use native.Mathlib.Numerals.{add-one}
use native.Mathlib.Omega.{arith}
use lib.ListN.{length, get_or}
use lib.Dec.{eqb, lit<}
use lib.Pow.{shr-shr}
use lib.Count.{ones, ones_step, ones-le}
use Rattle.lists.specs.Lists.{tab, total}
use Rattle.lists.specs.Keep.{bit, count}
use Rattle.lists.proofs.Laws.{tab-ext, total-next}
use Rattle.lists.proofs.Front.{count-tab-append}
use Rattle.positions.proofs.Slots.{count-last}
use Rattle.digits.specs.Digits.{bit_of}
use Rattle.marks.specs.Live.{marks_in}
use Rattle.marks.proofs.Words.{length-marks, bit-low, mark-at}
use Rattle.index.specs.State.{header_of}
use Rattle.fit.specs.Fits.{NoneFrom, live_marks}
use Rattle.fit.specs.Ones.{LiveIsOnes}
use Rattle.fit.proofs.Marks.{live-clear}
use Rattle.fit.proofs.Meaning.{meaning}
use Rattle.fit.proofs.Rooms.{enough}

abbrev pub is_one : ℕ → Bool
is_one m = eqb m 1

-- a bit counts itself
bit-counts : (b : ℕ) → b ≤ 1 → bit (is_one b) ≡ b
bit-counts zero l = refl
bit-counts (suc zero) l = refl
bit-counts (suc (suc b)) l = absurd (omega arith)

-- the set ones among the first k bits, and the ones of the rest
ones-parts : (w k : ℕ) → ones w ≡ count is_one (tab (bit_of w) k) + ones (w / 2 ^ k)
ones-parts w zero = omega (arith, ap ones (div-one w))
ones-parts w (suc k) =
    let here : bit (is_one (bit_of w k)) ≡ bit_of w k = bit-counts (bit_of w k) (bit-low w k) in
    let rest : ones (w / 2 ^ k / 2 ^ 1) ≡ ones (w / 2 ^ suc k) = ap ones (shr-shr w k 1 ∙ ap (λ (z : ℕ). w / 2 ^ z) (add-one k)) in
    omega (arith, ones-parts w k, ones_step (w / 2 ^ k), count-last is_one (bit_of w) k, here, rest)

-- the count of ones of a word is the number of its set bits
pub ones-bits : (w k : ℕ) → w < 2 ^ k → ones w ≡ count is_one (tab (bit_of w) k)
ones-bits w k l =
    let none : ones (w / 2 ^ k) ≡ ones 0 = ap ones (div-eq_of_lt l) in
    omega (arith, ones-parts w k, none, ones-le 0 0 (lit< tt))

-- the slots of one word more: as many live ones as the word has ones
pub live_more : (ws : List ℕ) (i : ℕ) → get_or ws i 0 < 2 ^ 64 → live_marks (marks_in ws) (suc i * 64) ≡ live_marks (marks_in ws) (i * 64) + ones (get_or ws i 0)
live_more ws i l =
    let mark : ℕ → ℕ = λ s. get_or (marks_in ws) s 0 in
    ap (λ (z : ℕ). live_marks (marks_in ws) z) {x = suc i * 64} {y = i * 64 + 64} (omega arith)
    ∙ count-tab-append is_one mark (i * 64) 64
    ∙ ap (λ (z : ℕ). live_marks (marks_in ws) (i * 64) + z)
    (ap (count is_one) (tab-ext (λ j. mark (i * 64 + j)) (bit_of (get_or ws i 0)) 64 (λ j k. mark-at ws i j k)) ∙ sym (ones-bits (get_or ws i 0) 64 l))

-- of whole words it is the count of their ones
pub live-is-ones : (ws : List ℕ) → ((i : ℕ) → get_or ws i 0 < 2 ^ 64) → (n : ℕ) → live_marks (marks_in ws) (n * 64) ≡ total (tab (λ i. ones (get_or ws i 0)) n)
live-is-ones ws l zero = refl
live-is-ones ws l (suc n) =
    let f : ℕ → ℕ = λ i. ones (get_or ws i 0) in
    live_more ws n (l n) ∙ omega (arith, live-is-ones ws l n, total-next f n)

-- ---- of a record and arrays that fit

pub live-ones : LiveIsOnes
live-ones x a ws l e f =
    let g = (meaning x a).yes f in
    let room : x.n ≤ length ws * 64 = omega (arith, (enough (header_of x) a x.n g.room).alive, ap length e, length-marks ws) in
    let clear : NoneFrom x.n (marks_in ws) = subst (λ (ms : List ℕ). NoneFrom x.n ms) e g.marks.clear in
    g.marks.count ∙ ap (λ (ms : List ℕ). live_marks ms x.n) e ∙ sym (live-clear (marks_in ws) x.n (length ws * 64) clear room) ∙ live-is-ones ws l (length ws)
