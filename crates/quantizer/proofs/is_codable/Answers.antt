use borrow.Author.Tests.{le-leb, lt-leb}
use Rattle.lloyd.specs.Quantizer.{quantizable}
use Rattle.quantizer.proofs.is_codable.Goals as goal

-- `quantizer::is_codable` meets its contract: its two tests are those of the definition.
pub returns-then-boundaries-le255 : goal.returns-then-boundaries-le255
unfolding quantizable
returns-then-boundaries-le255 c = rw (le-leb _ _ c.if-boundaries-le255.true)

pub returns-else-boundaries-le255 : goal.returns-else-boundaries-le255
unfolding quantizable
returns-else-boundaries-le255 c = rw (lt-leb _ _ c.if-boundaries-le255.false)
