-- The root of p * 4 ^ k from the whole root q of p: the pattern of q * 2 ^ k or the next one. So every finite value above 0 has a nearest root.
use mathlib.Core.Path.{◌≡◌, sym, ap, ap₂, ◌∙◌, subst}
use mathlib.Core.Logic.{inr}
use Prim.Native.Nat.{ℕ, zero, suc, ◌+◌, ◌-◌, ◌*◌, ◌/◌, ◌%◌, ◌^◌, ◌≤◌, ◌<◌}
use native.Mathlib.Nat.{le_trans, le_of_eq, le_step, lt_of_lt_of_le, lt_of_le_of_lt, lt_of_not-le, mul_assoc, mul-le-mul_right, mul-lt-mul_of_pos_right}
use native.Mathlib.Decide.{dec_le}
use native.Mathlib.Omega.{arith}
use lib.Dec.{lit≤}
use lib.Pow.{pow_pos}
use lib.Count.{count_leading_zeros}
use Rattle.std.proofs.lemmas.Nat.{mul-pow}
use Rattle.half.specs.Binary.{infinity}
use Rattle.half.specs.Nearest.{value}
use Rattle.half.proofs.NearestLaw.{value-at}
use Rattle.half.proofs.Digits.{shift_of}
use Rattle.sqrt.specs.Root.{radicand, nearest_root, NearestRoot}
use Rattle.sqrt.specs.Work.{Normal, Scaled, WholeRoot}
use Rattle.sqrt.proofs.Squares.{square, square-lt, root-lt}
use Rattle.sqrt.proofs.Nearest.{nearest-is, at-lower, at-upper}
use Rattle.sqrt.proofs.Scale.{four-to, paired_is, normal-is, shifted-normal, subnormal-is}

module _ (n p k q : ℕ) (s : Scaled n p k) (w : WholeRoot p q) where
  -- q has 24 digits
  q-above : 2 ^ 23 ≤ q
  q-above = omega (arith, root-lt {a = 2 ^ 23} {b = q + 1} (lt_of_le_of_lt s.above w.high))

  pub q-below : q < 2 ^ 24
  q-below = root-lt {b = 2 ^ 24} (lt_of_le_of_lt w.low s.below)

  -- the two patterns, their values, and twice the middle between these
  abbrev lower : ℕ
  lower = k * 2 ^ 23 + q

  value-lower : value 23 lower ≡ q * 2 ^ k
  value-lower = value-at 23 k q (omega (arith, q-below)) (inr q-above)

  value-upper : value 23 (suc lower) ≡ (q + 1) * 2 ^ k
  value-upper = ap (value 23) {x = suc lower} {y = k * 2 ^ 23 + (q + 1)} (omega arith) ∙ value-at 23 k (q + 1) (omega (arith, q-below)) (inr (omega (arith, q-above)))

  middle : value 23 lower + value 23 (suc lower) ≡ (2 * q + 1) * 2 ^ k
  middle = ap₂ (λ (x y : ℕ). x + y) value-lower value-upper ∙ omega arith

  -- their squares, beside n and 4 * n
  scaled : (v a : ℕ) → v ≡ a * 2 ^ k → v ^ 2 ≡ a ^ 2 * 4 ^ k
  scaled v a e = ap (λ (z : ℕ). z ^ 2) e ∙ mul-pow a (2 ^ k) 2 ∙ ap (λ (z : ℕ). a ^ 2 * z) (sym (four-to k))

  four-pos : 0 < 4 ^ k
  four-pos = subst (λ (z : ℕ). 0 < z) (sym (four-to k)) (square-lt (pow_pos k))

  four-n : 4 * n ≡ 4 * p * 4 ^ k
  four-n = ap (λ (z : ℕ). 4 * z) s.is ∙ sym (mul_assoc 4 p (4 ^ k))

  low : value 23 lower ^ 2 ≤ n
  low = le_trans (le_of_eq (scaled (value 23 lower) q value-lower)) (le_trans (mul-le-mul_right (4 ^ k) w.low) (le_of_eq (sym s.is)))

  high : n < value 23 (suc lower) ^ 2
  high =
      lt_of_le_of_lt (le_of_eq s.is)
      (lt_of_lt_of_le (mul-lt-mul_of_pos_right w.high four-pos) (le_of_eq (sym (scaled (value 23 (suc lower)) (q + 1) value-upper))))

  middle-square : (value 23 lower + value 23 (suc lower)) ^ 2 ≡ (2 * q + 1) ^ 2 * 4 ^ k
  middle-square = scaled (value 23 lower + value 23 (suc lower)) (2 * q + 1) middle

  finite : suc lower < infinity 23 8
  finite = omega (arith, q-below, s.small)

  -- (2 * q + 1) ^ 2 is 4 * (q * q + q) + 1 and no multiple of 4, so 4 * p is below or above it
  pub rounds-down : p - q * q ≤ q → NearestRoot n lower
  rounds-down h =
      at-lower n lower (omega (arith, q-above)) finite low high
      (lt_of_le_of_lt (le_of_eq four-n) (lt_of_lt_of_le (mul-lt-mul_of_pos_right (omega (arith, square (2 * q + 1))) four-pos) (le_of_eq (sym middle-square))))

  pub rounds-up : q < p - q * q → NearestRoot n (suc lower)
  rounds-up h =
      at-upper n lower (omega (arith, q-above)) finite low high
      (lt_of_le_of_lt (le_of_eq middle-square) (lt_of_lt_of_le (mul-lt-mul_of_pos_right (omega (arith, square (2 * q + 1))) four-pos) (le_of_eq (sym four-n))))

-- ---- every finite value above 0 has a nearest root
whole : (p : ℕ) → (q : ℕ) × WholeRoot p q
whole zero = (0, record { low = lit≤ tt; high = lit≤ tt })
whole (suc p) = go (whole p)
  where
    next : (q : ℕ) → WholeRoot p q → Dec ((q + 1) ^ 2 ≤ suc p) → (q : ℕ) × WholeRoot (suc p) q
    next q w (yes h) = (q + 1, record { low = h; high = lt_of_le_of_lt w.high (square-lt {a = q + 1} {b = q + 1 + 1} (omega arith)) })
    next q w (no f) = (q, record { low = le_step w.low; high = lt_of_not-le f })

    go : (q : ℕ) × WholeRoot p q → (q : ℕ) × WholeRoot (suc p) q
    go (q, w) = next q w (dec_le ((q + 1) ^ 2) (suc p))

scaled-root : (n p k : ℕ) → Scaled n p k → NearestRoot n (nearest_root n)
scaled-root n p k s = go (whole p)
  where
    found : (r : ℕ) → NearestRoot n r → NearestRoot n (nearest_root n)
    found r m = subst (λ (z : ℕ). NearestRoot n z) (sym (nearest-is n r m)) m

    pick : (q : ℕ) → WholeRoot p q → Dec (p - q * q ≤ q) → NearestRoot n (nearest_root n)
    pick q w (yes h) = found (k * 2 ^ 23 + q) (rounds-down n p k q s w h)
    pick q w (no f) = found (suc (k * 2 ^ 23 + q)) (rounds-up n p k q s w (lt_of_not-le f))

    go : (q : ℕ) × WholeRoot p q → NearestRoot n (nearest_root n)
    go (q, w) = pick q w (dec_le (p - q * q) q)

pub nearest-root : (b : ℕ) → 0 < b → b < infinity 23 8 → NearestRoot (radicand b) (nearest_root (radicand b))
nearest-root b l h = go (dec_le 1 (b / 2 ^ 23))
  where
    go : Dec (1 ≤ b / 2 ^ 23) → NearestRoot (radicand b) (nearest_root (radicand b))
    go (yes x) =
        let g : Normal (2 ^ 23 + b % 2 ^ 23) (b / 2 ^ 23 + 125) = record { above = omega arith; below = omega arith; small = omega arith } in
        scaled-root (radicand b) _ _ (normal-is b _ _ x (paired_is _ _ g))
    go (no f) =
        let u = count_leading_zeros 32 (b % 2 ^ 23) - 8 in
        let g = (shift_of 23 (b % 2 ^ 23) (lit≤ tt) (omega (arith, lt_of_not-le f)) (omega arith)).1 in
        scaled-root (radicand b) _ _ (subnormal-is b u _ _ (omega (arith, lt_of_not-le f)) g (paired_is _ _ (shifted-normal (b % 2 ^ 23) u g)))
