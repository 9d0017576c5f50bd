use mathlib.Core.Path.{◌≡◌, sym, ◌∙◌}
use native.Mathlib.Omega.{arith}
use lib.ListN.{length}
use Rattle.encode.specs.Header.{padded}
use Rattle.encode.proofs.Fit.{encodable-of, padded-fits}
use Rattle.encode.proofs.OneStage.{first-places}
use Rattle.encode.proofs.Whole.{not-encoded, encoded-into, residual-vector, plain-vector}
use Rattle.encode.proofs.encode.Goals as goal

pub returns-then-not-is_encodable : goal.returns-then-not-is_encodable
returns-then-not-is_encodable c = not-encoded _ _ _ _ _ _ _ (sym c.is_encodable.ensures ∙ c.if-not-is_encodable.true)

pub slice_bounds-all-end : goal.slice_bounds-all-end
slice_bounds-all-end c =
    omega (arith, padded-fits _ _ _ _ _ (sym c.is_encodable.ensures ∙ c.if-not-is_encodable.false) _ c.padded_dim.ensures)

pub slice_bounds-rotated-end : goal.slice_bounds-rotated-end
slice_bounds-rotated-end c =
    sym (first-places 4096 _ _ (padded-fits _ _ _ _ _ (sym c.is_encodable.ensures ∙ c.if-not-is_encodable.false) _ c.padded_dim.ensures))

pub encode_residual-requires-clause-codable : goal.encode_residual-requires-clause-codable
encode_residual-requires-clause-codable c =
    let yes = sym c.is_encodable.ensures ∙ c.if-not-is_encodable.false in
    let few = padded-fits _ _ _ _ _ yes _ c.padded_dim.ensures in
    let size : length c.rotate.new.out ≡ padded c.args.header = c.rotate.auto.out ∙ first-places 4096 _ _ few ∙ c.padded_dim.ensures in
    rw size (encodable-of _ _ _ _ _ yes).first

pub encode_residual-requires-clause-block2_len : goal.encode_residual-requires-clause-block2_len
encode_residual-requires-clause-block2_len c =
    (encodable-of _ _ _ _ _ (sym c.is_encodable.ensures ∙ c.if-not-is_encodable.false)).second c.if-header.true

pub encode_plain-requires : goal.encode_plain-requires
encode_plain-requires c =
    let yes = sym c.is_encodable.ensures ∙ c.if-not-is_encodable.false in
    let few = padded-fits _ _ _ _ _ yes _ c.padded_dim.ensures in
    let size : length c.rotate.new.out ≡ padded c.args.header = c.rotate.auto.out ∙ first-places 4096 _ _ few ∙ c.padded_dim.ensures in
    rw size (encodable-of _ _ _ _ _ yes).first

pub returns-then-header : goal.returns-then-header
returns-then-header c =
    let yes = sym c.is_encodable.ensures ∙ c.if-not-is_encodable.false in
    let whole = first-places 4096 _ _ (padded-fits _ _ _ _ _ yes _ c.padded_dim.ensures) ∙ c.padded_dim.ensures in
    encoded-into _ _ _ _ _ _ _ yes _ (residual-vector _ _ _ _ _ _ _ yes _ _ whole c.rotate.ensures c.if-header.true _ c.encode_residual.ensures)

pub returns : goal.returns
returns c =
    let yes = sym c.is_encodable.ensures ∙ c.if-not-is_encodable.false in
    let whole = first-places 4096 _ _ (padded-fits _ _ _ _ _ yes _ c.padded_dim.ensures) ∙ c.padded_dim.ensures in
    encoded-into _ _ _ _ _ _ _ yes _ (plain-vector _ _ _ _ _ _ _ yes _ _ whole c.rotate.ensures c.if-header.false _ _ c.encode_plain.ensures)
