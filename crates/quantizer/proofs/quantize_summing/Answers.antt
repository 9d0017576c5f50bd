use Rattle.std.proofs.Common.{◌∙◌, sym}
use Rattle.quantizer.proofs.Summing.{not-codable, coded-all, codable-of}
use Rattle.quantizer.proofs.quantize_summing.Goals as goal

pub returns-then-not-is_codable-clause-sum : goal.returns-then-not-is_codable-clause-sum
returns-then-not-is_codable-clause-sum c =
    let a = c.args in
    (not-codable a.boundaries.now a.centroids.now a.xs.now a.codes.now (sym c.is_codable.ensures ∙ c.if-not-is_codable.true)).0

pub returns-then-not-is_codable-clause-codes : goal.returns-then-not-is_codable-clause-codes
returns-then-not-is_codable-clause-codes c =
    let a = c.args in
    (not-codable a.boundaries.now a.centroids.now a.xs.now a.codes.now (sym c.is_codable.ensures ∙ c.if-not-is_codable.true)).1

pub squares-squares-requires : goal.squares-squares-requires
squares-squares-requires c = (codable-of _ _ _ (sym c.is_codable.ensures ∙ c.if-not-is_codable.false)).0

pub write_all-requires : goal.write_all-requires
write_all-requires c = codable-of _ _ _ (sym c.is_codable.ensures ∙ c.if-not-is_codable.false)

pub returns-clause-sum : goal.returns-clause-sum
returns-clause-sum c =
    let a = c.args in
    let all = c.write_all.ensures in
    (coded-all a.boundaries.now a.centroids.now a.xs.now a.codes.now (sym c.is_codable.ensures ∙ c.if-not-is_codable.false) _ _ _
    c.squares-squares.ensures all.sum all.codes).0

pub returns-clause-codes : goal.returns-clause-codes
returns-clause-codes c =
    let a = c.args in
    let all = c.write_all.ensures in
    (coded-all a.boundaries.now a.centroids.now a.xs.now a.codes.now (sym c.is_codable.ensures ∙ c.if-not-is_codable.false) _ _ _
    c.squares-squares.ensures all.sum all.codes).1
