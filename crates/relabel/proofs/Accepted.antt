-- The accepted relabelling, by the list that the inner functions leave.
use mathlib.Core.Path.{◌≡◌, refl, sym, ap, ◌∙◌}
use mathlib.Core.Bool.{Bool, true, false}
use mathlib.Core.List.{List}
use Prim.Native.Nat.{ℕ, ◌-◌}
use native.Mathlib.Omega.{arith}
use lib.ListN.{length}
use Rattle.lists.specs.Lists.{tab}
use Rattle.lists.specs.Keep.{bit, count}
use Rattle.lists.proofs.Keep.{each-mem, keep-none, length-keep}
use Rattle.index.specs.declared.Index.{Index}
use Rattle.index.specs.Arrays.{Arrays}
use Rattle.index.specs.State.{Mark, is_live, state_of, alive_of, has_key, key_word, position}
use Rattle.index.specs.Fit.{fit}
use Rattle.index.specs.Step.{flag, holds, remarked, step, relabel, relabelled}
use Rattle.index.specs.Call.{call}
use Rattle.index.specs.Answers.{result_of}
use Rattle.index.proofs.Calls.{outcome, call-answered}
use Rattle.slot_keys.specs.Has.{slot_has}
use Rattle.held.specs.Held.{held_count}
use Rattle.held.proofs.Value.{is-held}
use Rattle.relabel.specs.May.{may_change}
use Rattle.remarking.specs.Replaced.{replaced_where}
use Rattle.remarking.specs.Live.{with_live}
use Rattle.relabel.proofs.Parts.{relabelled-word, relabelled-part}
use Rattle.remarking.proofs.Marked.{room, has-at, part_same, part-other, mark_at, word_at, keyed-at, held_at, alive-at, parts_of, marked-call}

-- the arrays with other keys
abbrev pub with_keys : Arrays → List ℕ → Arrays
with_keys a ks =
    record { codes = a.codes; scales = a.scales; keys = ks; keyed = a.keyed; held = a.held; alive = a.alive; codes2 = a.codes2; scales2 = a.scales2; years = a.years }

count-never : {X : Type 0} (xs : List X) → count (λ (z : X). false) xs ≡ 0
count-never {X} xs = sym (length-keep (λ z. false) xs) ∙ ap length (keep-none (λ (z : X). false) xs (each-mem (λ z. false ≡ false) xs (λ z m. refl)))

module _ (x : Index) (a : Arrays) (e : fit x a ≡ true) where
  module _ (old new : ℕ) where
    abbrev pub may : Bool
    may = may_change (held_count a.keys a.keyed x.n old) (held_count a.keys a.keyed x.n new) old new

    relabel-outcome : outcome x a (relabel old new) e ≡ remarked (state_of x a) may 0 (relabelled old new)
    unfolding step may_change
    relabel-outcome = rw (is-held x a e old, is-held x a e new)

    pub relabel-no : may ≡ false → call x a (relabel old new) ≡ result_of x a (flag false)
    unfolding remarked
    relabel-no t = call-answered x a (relabel old new) e (flag false) (relabel-outcome ∙ rw t)

    pub relabel-yes : may ≡ true → (ks : List ℕ) → ks ≡ replaced_where (slot_has a.keys a.keyed old) x.n new 0 a.keys →
        call x a (relabel old new) ≡ result_of x (with_keys a ks) (flag true)
    unfolding with_live
    relabel-yes t ks is =
        marked-call x a e f (relabel old new) (λ m. false) (relabel-outcome ∙ rw t)
        (λ m. omega (arith, ap bit (relabelled-part old new is_live (λ i p. refl) m)))
        ∙ (λ j. record {
          index = with_live x (same_live j);
          arrays =
              record {
                codes = a.codes;
                scales = a.scales;
                keys = (words ∙ sym is) j;
                keyed = part_same x a e f has_key a.keyed false (keyed-at x a e) (room x a e).keyed (relabelled-part old new has_key (λ i p. refl)) j;
                held = part_same x a e f position a.held 0 (held_at x a e) (room x a e).held (relabelled-part old new position (λ i p. refl)) j;
                alive = part_same x a e f alive_of a.alive 0 (alive-at x a e) (room x a e).alive (relabelled-part old new alive_of (λ i p. refl)) j;
                codes2 = a.codes2;
                scales2 = a.scales2;
                years = a.years;
              };
          answer = flag true;
        })
      where
        f : Mark → Mark
        f = relabelled old new

        words : parts_of x a e f key_word a.keys ≡ replaced_where (slot_has a.keys a.keyed old) x.n new 0 a.keys
        words =
            part-other x a e f key_word a.keys 0 (word_at x a e) (holds old) (slot_has a.keys a.keyed old) new (λ i l. has-at x a e old i l) (relabelled-word old new)

        same_live : x.live - count (λ (m : Mark). false) (tab (mark_at a) x.n) ≡ x.live
        same_live = omega (arith, count-never (tab (mark_at a) x.n))
