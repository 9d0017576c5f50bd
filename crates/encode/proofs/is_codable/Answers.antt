use Rattle.codes.proofs.Tests.{no-width, a-width}
use native.Mathlib.Omega.{arith}
use Rattle.encode.proofs.Fit.{no-codes, too-many-levels, too-many-codes, by_size}
use Rattle.encode.proofs.is_codable.Goals as goal

pub returns-then-not-is_width : goal.returns-then-not-is_width
returns-then-not-is_width c = no-codes _ _ _ _ (no-width _ c.is_width.ensures c.if-not-is_width.true)

pub overflow_shl-bits : goal.overflow_shl-bits
overflow_shl-bits c = omega (arith, (a-width _ c.is_width.ensures c.if-not-is_width.false).most)

pub returns-then-bits-boundaries : goal.returns-then-bits-boundaries
returns-then-bits-boundaries c = too-many-levels _ _ _ _ (a-width _ c.is_width.ensures c.if-not-is_width.false) c.if-bits-boundaries.true

pub returns-then-codes-le4096 : goal.returns-then-codes-le4096
returns-then-codes-le4096 c =
    by_size _ _ _ _ (a-width _ c.is_width.ensures c.if-not-is_width.false) c.if-bits-boundaries.false c.if-codes-le4096.true _ c.bytes_per_vector.ensures

pub returns-else-codes-le4096 : goal.returns-else-codes-le4096
returns-else-codes-le4096 c = too-many-codes _ _ _ _ (a-width _ c.is_width.ensures c.if-not-is_width.false) c.if-bits-boundaries.false c.if-codes-le4096.false
