use Rattle.std.proofs.Common.{rules, tests, eqb, ◌≡◌, refl, ap, ◌∙◌, List, [], Bor, ℕ}
use Rattle.std.specs.Prelude.{Option, Some, None}
use Rattle.std.specs.Option.{option_map, unwrap_or}
use Rattle.std.proofs.lemmas.Option.{unwrap_or-slice_get}
use Rattle.std.proofs.lemmas.Iterator.Consumers.{nth_from_yields_List}
use Rattle.std.proofs.lemmas.Iterator.Splits.{YieldsList-from_slice_split}
use Rattle.text.proofs.field.Goals as goal

-- the bytes behind a reference that may be there, or those behind d
bytes : (r : Option (Bor (List ℕ))) (d : Bor (List ℕ)) → (unwrap_or r d).now ≡ unwrap_or (option_map (λ x. x.now) r) d.now
bytes None d = refl
bytes (Some x) d = refl

pub returns : goal.returns
returns c =
    let found = nth_from_yields_List c.nth.result c.nth.new.self c.args.i c.nth.ensures.ran
    (YieldsList-from_slice_split _ (λ b. eqb b 32) c.args.line.now c.split.ensures.rest c.split.ensures.done c.split.ensures.closure (λ x b q h. search (rules, tests))) in
    ap (λ (r : Bor (List ℕ)). r.now) c.unwrap_or.ensures ∙ bytes c.nth.result _ ∙ ap (λ (r : Option (List ℕ)). unwrap_or r []) found ∙ unwrap_or-slice_get _ c.args.i []
