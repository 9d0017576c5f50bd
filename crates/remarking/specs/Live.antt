-- The record after a change of marks.
use Rattle.std.specs.Prelude.{ℕ}
use Rattle.index.specs.declared.Index.{Index}
use Rattle.index.specs.State.{with_counts}

-- another live count, all else as it was
unfoldable pub with_live : Index → ℕ → Index
with_live x n = with_counts x x.n n x.cascade
