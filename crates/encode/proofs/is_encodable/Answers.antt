use Rattle.std.proofs.Common.{sym, ◌∙◌}
use Rattle.encode.proofs.Fit.{no-rotation, no-fit, both-blocks, one_block}
use Rattle.encode.proofs.is_encodable.Goals as goal

pub returns-then-not-is_rotatable : goal.returns-then-not-is_rotatable
returns-then-not-is_rotatable c = no-rotation _ _ _ _ _ (sym c.is_rotatable.ensures ∙ c.if-not-is_rotatable.true)

pub returns-then-not-is_codable : goal.returns-then-not-is_codable
returns-then-not-is_codable c =
    no-fit _ _ _ _ _ (sym c.is_rotatable.ensures ∙ c.if-not-is_rotatable.false) (sym (rw c.padded_dim-padded.ensures at c.is_codable.ensures) ∙ c.if-not-is_codable.true)

pub returns-else-not-header : goal.returns-else-not-header
returns-else-not-header c =
    both-blocks _ _ _ _ _ (sym c.is_rotatable.ensures ∙ c.if-not-is_rotatable.false) (sym (rw c.padded_dim-padded.ensures at c.is_codable.ensures) ∙ c.if-not-is_codable.false) c.if-not-header.false

pub returns-then-not-header : goal.returns-then-not-header
returns-then-not-header c =
    one_block _ _ _ _ _ (sym c.is_rotatable.ensures ∙ c.if-not-is_rotatable.false) (sym (rw c.padded_dim-padded.ensures at c.is_codable.ensures) ∙ c.if-not-is_codable.false) c.if-not-header.true
