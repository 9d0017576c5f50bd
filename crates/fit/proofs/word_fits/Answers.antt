use Rattle.positions.proofs.Decides.{holds}
use Rattle.fit.proofs.Marks.{full-live}
use Rattle.fit.proofs.word_fits.Goals as goal

pub returns-then-word-eq18446744073709551615 : goal.returns-then-word-eq18446744073709551615
returns-then-word-eq18446744073709551615 c = rw c.if-word-eq18446744073709551615.true (holds (full-live c.args.keyed.now c.requires))
