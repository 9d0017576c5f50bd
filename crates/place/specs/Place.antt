-- One slot written over the lent arrays, and the refusals.
use Rattle.std.specs.Prelude.{◌≡◌, Bool, true, false, cond, List, [], ◌∷◌, ℕ, suc, ◌+◌, ◌*◌, ◌≤◌, ◌<◌, length, set, leb}
use Rattle.lists.specs.Keep.{bit}
use Rattle.encode.specs.declared.Header.{Header}
use Rattle.encode.specs.Header.{block_size}
use Rattle.encode.specs.Coded.{Code, fault, no_spare, spare_of}
use Rattle.index.specs.declared.Index.{Index}
use Rattle.index.specs.Arrays.{Arrays}
use Rattle.index.specs.State.{Mark, alive_of, has_key, key_word, position, header_of, with_counts, capacity, slot_at, put_slot, with_code}
use Rattle.index.specs.Fit.{misfit}
use Rattle.index.specs.Sound.{Ranged}
use Rattle.index.specs.Codec.{encoded}
use Rattle.index.specs.Step.{Item, first_of, when}
use Rattle.place.specs.declared.Adding.{Adding}
use Rattle.place.specs.Adding.{barred}

-- ---- the code and the mark

-- what a slot stores of a vector: 01, store.rs: "Spare bits are 0 after an append; an overwrite keeps them."
unfoldable pub recoded : Header → (fresh : Bool) → (old : Code) → Item → Code
recoded h fresh old v = encoded h (cond fresh no_spare (spare_of h old)) v

-- the arrays with other codes and scales
abbrev pub with_stages : Arrays → (codes scales codes2 scales2 : List ℕ) → Arrays
with_stages a b c d e =
    record { codes = b; scales = c; keys = a.keys; keyed = a.keyed; held = a.held; alive = a.alive; codes2 = d; scales2 = e; years = a.years }

-- the code of a vector in the places of a slot, all else kept
unfoldable pub put_code : Header → Arrays → (fresh : Bool) → (i : ℕ) → Item → Arrays
put_code h a fresh i v =
    let s = slot_at h a i in
    let b = put_slot h a i (with_code s (recoded h fresh s.code v)) in
    with_stages a b.codes b.scales b.codes2 b.scales2

-- the mark and the year of a slot in their places, all else kept
unfoldable pub put_mark : Arrays → (i : ℕ) → Mark → (year : ℕ) → Arrays
put_mark a i m y =
    record {
      codes = a.codes;
      scales = a.scales;
      keys = set a.keys i (key_word m);
      keyed = set a.keyed i (has_key m);
      held = set a.held i (position m);
      alive = set a.alive i (alive_of m);
      codes2 = a.codes2;
      scales2 = a.scales2;
      years = set a.years i y;
    }

-- the vector can be coded, and the slot has its places
pub record Codable (h : Header) (a : Arrays) (i : ℕ) (v : Item) : Type 0 where
  pub header : Ranged h
  pub entries : h.working_dim ≤ length v.vector
  pub codes : suc i * block_size h ≤ length a.codes
  pub scales : i < length a.scales
  pub codes2 : h.residual ≡ true → suc i * block_size h ≤ length a.codes2
  pub scales2 : h.residual ≡ true → i < length a.scales2

-- the slot has the places of a mark and a year, and its position fits them
pub record Markable (a : Arrays) (i : ℕ) (m : Mark) : Type 0 where
  pub keys : i < length a.keys
  pub keyed : i < length a.keyed
  pub held : i < length a.held
  pub years : i < length a.years
  pub position : position m ≤ 65536

-- ---- the record, and the refusals

-- the record after an accepted add, of a slot behind those in use or of one among them: 01, "Every accepted add, overwrites too, ends it" (the cascade)
abbrev pub after_add : Index → (fresh : Bool) → Index
after_add x fresh = with_counts x (x.n + bit fresh) (x.live + bit fresh) false

-- 13; "Add: 1, 2, 3, 8"; 21, which "comes after every other test of that call". 8 does not come for a slot in use: arrays that hold too few slots are 13.
unfoldable pub refusal : Index → Arrays → Adding → (slot : ℕ) → Item → ℕ
refusal x a w i v =
    first_of
    (when (misfit x a) 13 ∷ fault (header_of x) v.vector ∷ when (leb (capacity (header_of x) a) i) 8 ∷ when (barred w a.years x.n i) 21 ∷ [])
