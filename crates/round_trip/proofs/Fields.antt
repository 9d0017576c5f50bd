-- The head of a file that was written, read back.
use mathlib.Core.Path.{◌≡◌, refl, sym, ap, ap₂, ◌∙◌}
use mathlib.Core.Bool.{Bool, true, false, not, cond}
use mathlib.Core.List.{List, ◌++◌}
use Prim.Native.Nat.{ℕ, ◌+◌, ◌^◌, ◌≤◌, ◌<◌}
use native.Mathlib.Nat.{mod-eq_of_lt}
use native.Mathlib.Omega.{arith}
use lib.ListN.{length, drop}
use lib.Seq.{take_at}
use lib.Dec.{eqb, leb}
use borrow.Author.Tests.{leb-true, eqb-true, ne_eqb}
use Rattle.lists.proofs.Keep.{either}
use Rattle.digits.specs.Digits.{number}
use Rattle.digits.proofs.Digits.{length_digits, number_digits}
use Rattle.encode.specs.declared.Header.{Header}
use Rattle.index.specs.declared.Form.{Form}
use Rattle.index.specs.Form.{form_of}
use Rattle.index.specs.File.{Entry, le_bytes, no_duty, version_of, file_of}
use Rattle.index.specs.Sound.{Ranged}
use Rattle.index.specs.Read.{little_endian, version_in, form_in, dim_in, count_in, working_field, header_in}
use Rattle.lists.proofs.Tests.{and_left, and_right}
use Rattle.layout.proofs.Length.{written-version, form, form-second, form-working}

-- what is written in n bytes is read from them
pub le-back : (n v : ℕ) (rest : List ℕ) → v < 256 ^ n → little_endian n (le_bytes n v ++ rest) ≡ v
unfolding little_endian
le-back n v rest l = ap (number 256) (take_at (le_bytes n v) rest n (length_digits 256 n v)) ∙ number_digits 256 (omega arith) n v ∙ mod-eq_of_lt l

module _ (h : Header) (es : List Entry) where
  abbrev file : List ℕ
  file = file_of h es

  version_low : version_of h es < 65536
  version_low = written-version h es (λ v. v < 65536) (omega arith) (omega arith) (omega arith) (omega arith) (omega arith) (omega arith)

  pub version-back : version_in file ≡ version_of h es
  unfolding file_of
  version-back = le-back 2 (version_of h es) (drop 6 file) version_low

  pub form-back : form_in file ≡ form h es
  form-back = ap form_of version-back

  pub count-back : length es < 2 ^ 32 → count_in file ≡ length es
  unfolding file_of
  count-back l = le-back 4 (length es) (drop 24 file) l

  module _ (r : Ranged h) where
    pub dim-least : 1 ≤ h.dim
    dim-least = leb-true 1 h.dim (and_left (leb 1 h.dim) (leb h.dim 4096) r.dim)

    pub dim-most : h.dim ≤ 4096
    dim-most = leb-true h.dim 4096 (and_right (leb 1 h.dim) (leb h.dim 4096) r.dim)

    working-least : 1 ≤ h.working_dim
    working-least = leb-true 1 h.working_dim (and_left (leb 1 h.working_dim) (leb h.working_dim h.dim) r.working_dim)

    working-most : h.working_dim ≤ h.dim
    working-most = leb-true h.working_dim h.dim (and_right (leb 1 h.working_dim) (leb h.working_dim h.dim) r.working_dim)

    pub dim-back : dim_in file ≡ h.dim
    unfolding file_of
    dim-back = le-back 4 h.dim (drop 12 file) (omega (arith, dim-most))

    -- "0 if it equals dim"
    abbrev pub field : ℕ
    field = cond (eqb h.working_dim h.dim) 0 h.working_dim

    pub field-low : field ≤ h.dim
    field-low = either (λ (f : ℕ). f ≤ h.dim) (eqb h.working_dim h.dim) (omega arith) working-most

    pub field_back : working_field file ≡ field
    unfolding file_of
    field_back =
        ap (λ (b : Bool). cond b (little_endian 2 (drop 6 file)) 0) (ap (λ (f : Form). f.working) form-back ∙ form-working h es)
        ∙ le-back 2 field (drop 8 file) (omega (arith, field-low, dim-most))

    working-back : cond (eqb field 0) h.dim field ≡ h.working_dim
    working-back = go (eqb h.working_dim h.dim) refl
      where
        go : (b : Bool) → eqb h.working_dim h.dim ≡ b → cond (eqb (cond b 0 h.working_dim) 0) h.dim (cond b 0 h.working_dim) ≡ h.working_dim
        go true e = sym (eqb-true h.working_dim h.dim e)
        go false e = rw (ne_eqb h.working_dim 0 (λ z. absurd (omega (arith, working-least, z))))

    width_back : cond (form_in file).width (little_endian 1 (drop 24 file)) 4 ≡ h.bits
    unfolding file_of little_endian form_of version_of
    width_back =
        ap (λ (f : Form). cond f.width (little_endian 1 (drop 24 file)) 4) form-back ∙ go h.residual (eqb h.bits 4) (no_duty es) refl refl refl
      where
        go : (b c d : Bool) → h.residual ≡ b → eqb h.bits 4 ≡ c → no_duty es ≡ d →
            cond (form_of (cond b 260 (cond c 259 261) + cond (not d) 3 0)).width (little_endian 1 (drop 24 file)) 4 ≡ h.bits
        go true c true e f g = sym (eqb-true h.bits 4 (rw e at r.residual))
        go true c false e f g = sym (eqb-true h.bits 4 (rw e at r.residual))
        go false true true e f g = sym (eqb-true h.bits 4 f)
        go false true false e f g = sym (eqb-true h.bits 4 f)
        go false false true e f g = rw (e, f, g) (omega arith)
        go false false false e f g = rw (e, f, g) (omega arith)

    pub header-back : h.seed < 2 ^ 64 → header_in file ≡ h
    unfolding header_in file_of
    header-back l =
        λ i. record {
          dim = dim-back i;
          working_dim = (ap₂ (λ (f d : ℕ). cond (eqb f 0) d f) field_back dim-back ∙ working-back) i;
          seed = (le-back 8 h.seed (drop 20 file) l) i;
          bits = width_back i;
          residual = (ap (λ (f : Form). f.second) form-back ∙ form-second h es) i;
        }
