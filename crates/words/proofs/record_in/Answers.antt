use Rattle.std.proofs.Common.{◌∙◌}
use Rattle.std.proofs.Common.{sym}
use native.Mathlib.Omega.{arith}
use Rattle.words.specs.Words.{fields_in}
use Rattle.words.proofs.Records.{too_few, untyped, all_typed}
use Rattle.words.proofs.record_in.Goals as goal

-- `words::record_in` meets its contract.
pub returns-then-fields-lt-RECORD_WORDS : goal.returns-then-fields-lt-RECORD_WORDS
returns-then-fields-lt-RECORD_WORDS c = too_few _ c.if-fields-lt-RECORD_WORDS.true

pub returns-then-not-typed : goal.returns-then-not-typed
returns-then-not-typed c = untyped _ (omega (arith, c.if-fields-lt-RECORD_WORDS.false)) (sym c.typed.ensures ∙ c.if-not-typed.true)

pub returns : goal.returns
unfolding fields_in
returns c = all_typed _ (omega (arith, c.if-fields-lt-RECORD_WORDS.false)) (sym c.typed.ensures ∙ c.if-not-typed.false)
