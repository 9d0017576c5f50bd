-- What is put of the verdict of a call of the index.
use mathlib.Core.Path.{◌≡◌, ap, ◌∙◌}
use Prim.Native.Nat.{ℕ}
use Rattle.std.specs.Prelude.{Result, Ok, Err}
use Rattle.refusal.specs.declared.Refusal.{Refusal}
use Rattle.refusal.specs.Refusal.{number_of}
use Rattle.index.specs.Verdict.{Verdict, turned_down, verdict}
use Rattle.words.specs.Put.{Puts}

-- its refusals give their own numbers
pub put-verdict : {A P : Type 0} (t : Result A Refusal) (says : Verdict A → P) (p : P) → Puts (λ r n. n ≡ number_of r) t says p → p ≡ says (verdict t)
unfolding Puts
put-verdict (Ok x) says p e = e
put-verdict (Err r) says p e = e.2 ∙ ap (λ (n : ℕ). says (turned_down n)) e.1
