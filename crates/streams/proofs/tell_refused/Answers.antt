use Rattle.std.proofs.Common.{ap, length, arith}
use Rattle.refusal.specs.Refusal.{number_of}
use Rattle.streams.specs.Streams.{refused_text}
use Rattle.streams.proofs.Telling.{refused-short, told}
use Rattle.streams.proofs.tell_refused.Goals as goal

pub returns : goal.returns
returns g c =
    let n = number_of c.args.refusal in
    rw (told (refused_text n) c.new-out.result c.put_refused.new.out _ c.new-out.ensures.empty (omega (arith, refused-short n, ap length c.new-out.ensures.buffer)) c.put_refused.ensures c.text.ensures) at c.write_all.ensures.bytes
