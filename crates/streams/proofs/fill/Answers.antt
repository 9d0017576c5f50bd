use Rattle.std.proofs.Common.{rules, arith}
use Rattle.streams.proofs.Pieces.{read_more, filled}
use Rattle.streams.proofs.fill.Goals as goal

pub loop-got-preserved : goal.loop-got-preserved
loop-got-preserved g c = record {
  within = search rules;
  read = read_more _ _ _ c.loop-got.buf c.read_some.new.buf _ _ _ c.loop-got.invariant.within c.in_ok-more.ensures.within.0 c.loop-got.invariant.read c.in_ok-more.ensures.bytes.0;
}

pub returns-clause-bytes : goal.returns-clause-bytes
returns-clause-bytes g c = filled _ _ c.loop-got.buf _ (omega arith) c.loop-got.invariant.read
