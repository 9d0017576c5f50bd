use Rattle.std.proofs.Common.{refl, arith}
use Rattle.print.proofs.Places.{put_copy}
use Rattle.print.proofs.Printer.put_bytes.Goals as goal

pub returns : goal.returns
returns c =
    record { prints = put_copy _ _ _ _ _ _ c.args.self.now.in_out c.min-n.ensures (omega arith) c.copy_from_slice.ensures.after; same_buffer = refl }
