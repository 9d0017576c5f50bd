use Rattle.positions.proofs.Walks.{preceded-by}
use Rattle.positions.proofs.HeldKeys.is_preceded.Goals as goal

pub returns : goal.returns
returns c = preceded-by _ _ _ _ _ c.requires.grown c.if-not-self-slot.false c.if-position-eq0.false _ c.find-place.ensures
