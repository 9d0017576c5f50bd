use Rattle.std.proofs.Common.{◌∷◌, [], ◌≤◌, ap, length, length-append, arith}
use Rattle.numerals.specs.Numerals.{decimal_text}
use Rattle.numerals.proofs.Numeral.{numeral-length}
use Rattle.print.proofs.Places.{put_then}
use Rattle.streams.proofs.Telling.{told}
use Rattle.convert.specs.Told.{count_text}
use Rattle.convert.proofs.tell_count.Goals as goal

pub returns : goal.returns
returns g c =
    let text = count_text c.args.n in
    let room : length (count_text c.args.n) ≤ length c.new-out.result.out.now = omega (arith, numeral-length 10 1 20 c.args.n, length-append (decimal_text c.args.n) (10 ∷ []), ap length c.new-out.ensures.buffer) in
    rw (told text c.new-out.result c.put_byte.new.self _ c.new-out.ensures.empty room (put_then c.put_decimal.ensures c.put_byte.ensures) c.text.ensures) at c.write_all.ensures.bytes
