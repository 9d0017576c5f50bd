use Rattle.std.proofs.Common.{◌≡◌, sym, ◌∙◌, ◌*◌, drop, arith}
use Rattle.lists.proofs.Writing.{written_none, written-more, written-part}
use Rattle.index.specs.Read.{little_endian}
use Rattle.read.proofs.Years.{two-bytes}
use Rattle.read.proofs.read_scales.Goals as goal

pub loop-i-init : goal.loop-i-init
loop-i-init c = written_none _ _ _ (omega arith)

pub loop-i-preserved : goal.loop-i-preserved
loop-i-preserved c =
    let bytes = c.args.bytes.now in
    let read : c.from_le_bytes-half.result ≡ little_endian 2 (drop (c.loop-i.i * 2) bytes) = omega (arith, c.from_le_bytes-half.ensures) ∙ sym (two-bytes bytes (c.loop-i.i * 2)) in
    rw (c.f16_bits_to_f32.ensures.equals, read) (written-more _ _ _ (omega arith) c.loop-i.invariant c.loop-i-test.true)

pub returns : goal.returns
returns c = written-part _ _ _ c.requires.room.0 c.loop-i.invariant c.loop-i-test.false
