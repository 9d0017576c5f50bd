use native.Mathlib.Omega.{arith}
use Rattle.fwht.proofs.Spans.{spanned-start, spanned-blocks, spanned-some, spanned-more}
use Rattle.fwht.proofs.first_spans.Goals as goal

-- three passes from eight places on
pub over_blocks-requires : goal.over_blocks-requires
over_blocks-requires c =
    let s = spanned-start lib.Ieee.nan (lib.Ieee.add lib.Ieee.binary32) (lib.Ieee.sub lib.Ieee.binary32) _ c.requires in
    record { whole = spanned-blocks _ _ _ _ _ _ s 2 (omega arith); some = spanned-some _ _ _ _ _ _ s 2 (omega arith) }

pub returns-then-v-ge8 : goal.returns-then-v-ge8
returns-then-v-ge8 c = spanned-more _ _ _ _ _ _ (spanned-start _ _ _ _ c.requires) 2 (omega arith) _ c.over_blocks.ensures
