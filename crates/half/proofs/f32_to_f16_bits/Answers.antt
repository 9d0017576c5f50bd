use mathlib.Core.Path.{◌≡◌, sym, ap, ◌∙◌}
use Prim.Native.Nat.{ℕ, ◌+◌, ◌-◌, ◌*◌, ◌/◌, ◌%◌, ◌^◌, ◌<◌, ◌≤◌}
use native.Mathlib.Omega.{arith}
use mathlib.Core.Bool.{true, false}
use lib.IntN.{pos, negsuc, nat_abs}
use lib.Signed.{lt_z, le_z}
use lib.Bits.{bit_and, bit_or, and_mask, and_high, or_shifted_r}
use lib.Ieee.Nearest.{closest}
use Rattle.half.specs.Half.{narrowed}
use Rattle.half.proofs.Digits.{or-add}
use Rattle.half.proofs.Exponent as exponent
use Rattle.half.proofs.Narrow.{rounds, over, normal, subnormal, few, none, most, finite, infinite, no_number, meets}
use Rattle.half.proofs.f32_to_f16_bits.Goals as goal

-- `half::f32_to_f16_bits` meets its contract: a law of `Narrow.antt` for each return, and `Exponent.antt` for the signed exponent.
module _ (x : ℕ) where
  -- ---- the fields
  abbrev field : ℕ
  field = bit_and (x / 0x80_0000) 255

  abbrev frac : ℕ
  frac = bit_and x 0x7F_FFFF

  -- the significand, with its leading one
  abbrev sig : ℕ
  sig = bit_or frac 0x80_0000

  is_field : x / 0x80_0000 % 256 ≡ field
  is_field = sym (and_mask (x / 0x80_0000) 8)

  is-frac : x % 0x80_0000 ≡ frac
  is-frac = sym (and_mask x 23)

  field_lt : field < 256
  field_lt = omega (arith, is_field)

  frac-lt : frac < 0x80_0000
  frac-lt = omega (arith, is-frac)

  is-sig : sig ≡ 0x80_0000 + frac
  is-sig = or_shifted_r 1 23 frac frac-lt

  is-sign : x < 2 ^ 32 → bit_and (x / 0x1_0000) 0x8000 ≡ x / 0x8000_0000 * 32768
  is-sign h = and_high (x / 0x1_0000) 1 15 ∙ omega arith

  -- ---- the sign and the rest of a half
  abbrev signed : ℕ → ℕ
  signed v = x / 0x8000_0000 * 32768 + v

  joined : (v : ℕ) → x < 2 ^ 32 → v < 32768 → bit_or (bit_and (x / 0x1_0000) 0x8000) v ≡ signed v
  joined v h l = rw (is-sign h) (or-add 15 (x / 0x8000_0000 * 32768) v (omega arith) l)

  -- what a finite pattern is written as
  written : (v : ℕ) → field < 255 → rounds field frac ≡ v → narrowed x ≡ signed v
  written v l e = finite x field frac is_field is-frac v l e

  -- ---- a normal half: q is what `nearest` gives
  abbrev above : ℕ
  above = nat_abs (exponent.plus14 field)

  record Normal (q : ℕ) : Type 0 where
    shift : above ≡ field - 113
    low : field ≤ 142
    few : q ≤ 2048
    is : narrowed x ≡ signed ((field - 113) * 1024 + q)

  normal-half : (q : ℕ) → le_z (negsuc 13) (exponent.less field) ≡ true → lt_z (pos 15) (exponent.less field) ≡ false → q ≡ closest sig (2 ^ 13) → Normal q
  normal-half q from below e =
      let l : 113 ≤ field = exponent.normal field field_lt from in
      let h : field ≤ 142 = exponent.not-over field field_lt below in
      record {
        shift = exponent.plus14-is field field_lt l;
        low = h;
        few = omega (arith, most frac sig frac-lt is-sig);
        is =
            written ((field - 113) * 1024 + q) (omega arith)
            (normal frac sig frac-lt is-sig field l h ∙ ap (λ (z : ℕ). (field - 113) * 1024 + z) (sym e));
      }

  -- ---- a subnormal half
  abbrev down : ℕ
  down = nat_abs (exponent.minus1 field)

  record Subnormal : Type 0 where
    low : field < 113
    shift : down ≡ 126 - field
    few : closest sig (2 ^ down) ≤ 1024
    is : narrowed x ≡ signed (closest sig (2 ^ down))

  subnormal-half : le_z (negsuc 13) (exponent.less field) ≡ false → Subnormal
  subnormal-half below =
      let l : field < 113 = exponent.subnormal field field_lt below in
      let s : down ≡ 126 - field = exponent.minus1-is field field_lt l in
      record {
        low = l;
        shift = s;
        few = few frac sig frac-lt is-sig down (omega arith);
        is =
            written (closest sig (2 ^ down)) (omega arith)
            (subnormal frac sig frac-lt is-sig field l ∙ ap (λ (z : ℕ). closest sig (2 ^ z)) (sym s));
      }

pub returns-then-frac-eq0 : goal.returns-then-frac-eq0
returns-then-frac-eq0 c =
    let x = c.args.x in
    meets x _
    (joined x 0x7C00 c.ranges.x.fits (omega arith)
    ∙ sym (infinite x (field x) (frac x) (is_field x) (is-frac x) c.if-exp-eq255.true c.if-frac-eq0.true))

pub returns-then-exp-eq255 : goal.returns-then-exp-eq255
returns-then-exp-eq255 c =
    let x = c.args.x in
    meets x _
    (joined x 0x7E00 c.ranges.x.fits (omega arith)
    ∙ sym (no_number x (field x) (frac x) (is_field x) (is-frac x) c.if-exp-eq255.true c.if-frac-eq0.false))

pub returns-then-e-gt15 : goal.returns-then-e-gt15
returns-then-e-gt15 c =
    let x = c.args.x in
    let l : 142 < field x = exponent.over (field x) (field_lt x) c.if-e-gt15.true in
    meets x _
    (joined x 0x7C00 c.ranges.x.fits (omega arith)
    ∙ sym (written x 0x7C00 (omega (arith, field_lt x, c.if-exp-eq255.false)) (over (frac x) (sig x) (frac-lt x) (is-sig x) (field x) l)))

pub overflow_add-result : goal.overflow_add-result
overflow_add-result c =
    let n = normal-half c.args.x _ c.if-e-geminus14.true c.if-e-gt15.false c.nearest.ensures in
    omega (arith, n.shift, n.low, n.few)

pub overflow_cast-result : goal.overflow_cast-result
overflow_cast-result c =
    let n = normal-half c.args.x _ c.if-e-geminus14.true c.if-e-gt15.false c.nearest.ensures in
    omega (arith, n.shift, n.low, n.few)

pub returns-then-e-geminus14 : goal.returns-then-e-geminus14
returns-then-e-geminus14 c =
    let x = c.args.x in
    let n = normal-half x _ c.if-e-geminus14.true c.if-e-gt15.false c.nearest.ensures in
    meets x _
    (joined x (above x * 1024 % 0x1_0000_0000 + c.nearest.result) c.ranges.x.fits (omega (arith, n.shift, n.low, n.few))
    ∙ omega (arith, n.is, n.shift, n.low))

pub returns-then-shift-gt24 : goal.returns-then-shift-gt24
returns-then-shift-gt24 c =
    let x = c.args.x in
    let n = subnormal-half x c.if-e-geminus14.false in
    let z : closest (sig x) (2 ^ down x) ≡ 0 = none (frac x) (sig x) (frac-lt x) (is-sig x) (down x) c.if-shift-gt24.true in
    meets x _ (omega (arith, n.is, is-sign x c.ranges.x.fits))

pub overflow_cast-result-2 : goal.overflow_cast-result-2
overflow_cast-result-2 c =
    let n = subnormal-half c.args.x c.if-e-geminus14.false in
    omega (arith, n.few, c.nearest-2.ensures)

pub returns : goal.returns
returns c =
    let x = c.args.x in
    let n = subnormal-half x c.if-e-geminus14.false in
    let e = c.nearest-2.ensures in
    meets x _ (joined x c.nearest-2.result c.ranges.x.fits (omega (arith, n.few)) ∙ omega (arith, n.is))
