use Rattle.std.proofs.Common.{refl, sym, arith}
use Rattle.lists.proofs.Bits.{as-bit, one_at_most}
use Rattle.marks.specs.Live.{marks_in, live_at}
use Rattle.layout.proofs.Counting.{count-one, count-few}
use Rattle.write.specs.Pieces.{key_piece}
use Rattle.write.proofs.Putting.{order-none, order-room, order-put}
use Rattle.write.proofs.Pieces.{entry-room, entry-is}
use Rattle.write.proofs.Writer.put_entries.Goals as goal

pub loop-i-init : goal.loop-i-init
loop-i-init c = let a = c.args.arrays.now in record { put = order-none (key_piece a.keys.now a.keyed.now (marks_in a.alive.now)) c.args.self.now; numbered = refl }

pub put_entry-requires : goal.put_entry-requires
put_entry-requires c =
    let a = c.args.arrays.now in
    let v = c.loop-i.invariant in
    entry-room _ _ _ _ _ v.numbered c.loop-i.self (order-room (key_piece a.keys.now a.keyed.now (marks_in a.alive.now)) _ v.put _ c.requires c.loop-i-test.true)

pub overflow_add-number : goal.overflow_add-number
overflow_add-number c = omega (arith, count-few (live_at (marks_in c.args.arrays.now.alive.now)) c.loop-i.i, one_at_most c.is_live.result)

pub loop-i-preserved : goal.loop-i-preserved
loop-i-preserved c =
    let a = c.args.arrays.now in
    let v = c.loop-i.invariant in
    record {
      put = order-put (key_piece a.keys.now a.keyed.now (marks_in a.alive.now)) _ v.put (entry-is _ _ _ _ _ v.numbered c.put_entry.ensures);
      numbered = rw (v.numbered, as-bit c.is_live.result, c.is_live.ensures) (sym (count-one (live_at (marks_in c.args.arrays.now.alive.now)) c.loop-i.i));
    }
