use Rattle.std.proofs.Common.{arith}
use Rattle.conversion.proofs.Passing.{few_changed, narrowed_chunk}
use Rattle.conversion.proofs.pass_chunk.Goals as goal

pub returns-clause-few : goal.returns-clause-few
returns-clause-few g c = few_changed _ _ _ c.requires.whole c.requires.room (omega arith) _ c.narrow_scales-changed.ensures.changed

pub returns-clause-bytes : goal.returns-clause-bytes
returns-clause-bytes g c =
    narrowed_chunk _ _ _ _ c.args.scales.now c.fill.new.buf _ _ _ _ c.requires.whole c.requires.room (omega arith) (omega arith) c.in_ok-came.ensures.bytes c.narrow_scales-changed.ensures.changed c.narrow_scales-changed.ensures.written c.in_ok-write_all.ensures.bytes
