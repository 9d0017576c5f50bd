-- 13's test means what its clauses say.
use mathlib.Core.Path.{◌≡◌, refl, sym, ◌∙◌}
use mathlib.Core.Bool.{true, false, not, ◌||◌}
use Prim.Native.Nat.{ℕ, ◌≤◌}
use lib.ListN.{get_or}
use lib.Dec.{leb, eqb}
use borrow.Author.Tests.{leb-true, eqb-true, le-leb, eq-eqb}
use Rattle.lists.specs.Lists.{tab}
use Rattle.lists.specs.Keep.{count}
use Rattle.index.specs.declared.Index.{Index}
use Rattle.index.specs.Arrays.{Arrays}
use Rattle.index.specs.Fit.{between, Row, row_at, fit_by_mark, none_from, fit}
use Rattle.index.proofs.Fits.{none-past, past-none}
use Rattle.positions.specs.Decides.{Decides}
use Rattle.fit.specs.Fits.{live_marks, keys_in, Fits}
use Rattle.positions.proofs.Decides.{decided, decides-true}
use Rattle.lists.proofs.Tests.{and_left, and_right}
use Rattle.positions.proofs.Tests.{both, each, nothing, also}
use Rattle.fit.proofs.Marks.{implied, implies}
use Rattle.positions.proofs.Slots.{all-tab, tab-all, count-tab, rows-ordered}

between-parts : (low high x : ℕ) → between low high x ≡ true → (low ≤ x) × (x ≤ high)
between-parts low high x e = (leb-true low x (and_left (leb low x) (leb x high) e), leb-true x high (and_right (leb low x) (leb x high) e))

between-made : (low high x : ℕ) → low ≤ x → x ≤ high → between low high x ≡ true
between-made low high x l m = both (leb low x) (leb x high) (le-leb low x l) (le-leb x high m)

module _ (x : Index) (a : Arrays) where
  same_count : count (λ (r : Row). eqb r.alive 1) (tab (row_at a) x.n) ≡ live_marks a.alive x.n
  unfolding row_at
  same_count = count-tab (λ (r : Row). eqb r.alive 1) (λ m. eqb m 1) (row_at a) (λ i. get_or a.alive i 0) x.n (λ i. refl)

  fits-from : fit x a ≡ true → Fits x a
  unfolding fit fit_by_mark row_at
  fits-from t =
      let h = and_left (fit_by_mark x a) (none_from x.n a.alive) t in
      let dim = between-parts 1 4096 x.dim (each _ 0 h) in
      let working = between-parts 1 x.dim x.working_dim (each _ 1 h) in
      let bits = between-parts 4 6 x.bits (each _ 2 h) in
      record {
        fields =
            record {
              dim = dim.0;
              dim-high = dim.1;
              working = working.0;
              working-high = working.1;
              bits = bits.0;
              bits-high = bits.1;
              residual = λ e. eqb-true _ _ (implied x.residual (eqb x.bits 4) (each _ 3 h) e);
            };
        room = leb-true _ _ (each _ 4 h);
        marks =
            record {
              low = λ i l. leb-true _ _ (tab-all (λ (r : Row). leb r.alive 1) (row_at a) x.n i (each _ 5 h) l);
              clear = none-past x.n a.alive (and_right (fit_by_mark x a) (none_from x.n a.alive) t);
              slot = λ i l e.
                  eqb-true _ _ (implied (get_or a.keyed i false) (eqb (get_or a.alive i 0) 1)
                  (tab-all (λ (r : Row). not r.keyed || eqb r.alive 1) (row_at a) x.n i (each _ 7 h) l) e);
              count = eqb-true _ _ (each _ 6 h) ∙ same_count;
            };
        positions = (rows-ordered (keys_in a) (λ i. get_or a.alive i 0) x.n).yes (each _ 8 h);
      }

  fits-to : Fits x a → fit x a ≡ true
  unfolding fit fit_by_mark row_at
  fits-to f =
      let g = f.fields in
      both (fit_by_mark x a) (none_from x.n a.alive)
      (also _ _ (between-made 1 4096 x.dim g.dim g.dim-high)
      (also _ _ (between-made 1 x.dim x.working_dim g.working g.working-high)
      (also _ _ (between-made 4 6 x.bits g.bits g.bits-high)
      (also _ _ (implies x.residual (eqb x.bits 4) (λ e. eq-eqb _ _ (g.residual e)))
      (also _ _ (le-leb _ _ f.room)
      (also _ _ (all-tab (λ (r : Row). leb r.alive 1) (row_at a) x.n (λ i l. le-leb _ _ (f.marks.low i l)))
      (also _ _ (eq-eqb _ _ (f.marks.count ∙ sym same_count))
      (also _ _ (all-tab (λ (r : Row). not r.keyed || eqb r.alive 1) (row_at a) x.n
      (λ i l. implies (get_or a.keyed i false) (eqb (get_or a.alive i 0) 1) (λ e. eq-eqb _ _ (f.marks.slot i l e))))
      (also _ _ (decides-true (rows-ordered (keys_in a) (λ i. get_or a.alive i 0) x.n) f.positions) nothing)))))))))
      (past-none x.n a.alive f.marks.clear)

  pub meaning : Decides (fit x a) (Fits x a)
  meaning = decided (fit x a) fits-from fits-to
