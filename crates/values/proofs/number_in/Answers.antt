use Rattle.std.proofs.Common.{◌+◌, ◌*◌, ◌-◌, arith, drop}
use native.Mathlib.Nat.{add-sub_cancel_left}
use lib.Seq.{length-take-le}
use lib.ListN.{length-drop}
use Rattle.values.proofs.Digits.{digits-part}
use Rattle.values.proofs.number_in.Goals as goal

pub value_of-requires : goal.value_of-requires
value_of-requires c =
    let f = c.args.field.now in
    let from = c.args.width * c.args.i in
    let n = from + c.args.width - from in
    (digits-part f from n c.requires.0, omega (arith, c.requires.1, length-take-le n (drop from f) (omega (arith, c.requires.1, length-drop from f))))
