use Rattle.std.proofs.Common.{rules, arith, ◌≡◌, Err, sym}
use Rattle.refusal.proofs.Numbers.{above_0}
use Rattle.read.proofs.Faults.{passed-head, read_none}
use Rattle.read.proofs.Call.{first-room, marks-room, second-room, years-room, done}
use Rattle.read.proofs.from_bytes.Goals as goal

pub returns-in_err-check-clause-answers : goal.returns-in_err-check-clause-answers
returns-in_err-check-clause-answers c =
    let r = c.in_err-check.field-0.0 in
    let k : c.from_residual.result ≡ Err r = search rules in
    rw k (read_none c.args.file.now _ _ (rw c.view.ensures at c.in_err-check.ensures) (λ z. omega (arith, above_0 r, z)))

pub file_in-from-requires : goal.file_in-from-requires
file_in-from-requires c = passed-head c.args.file.now _ (sym (rw c.view.ensures at c.in_ok-check.ensures))

pub read_stage-requires : goal.read_stage-requires
read_stage-requires c =
    let none = sym (rw c.view.ensures at c.in_ok-check.ensures) in
    let from = c.file_in-from.result in
    let room = first-room c.args.file.now _ none _ c.file_in-from.ensures _ _ _ from.form_is from.block_is from.count_is _ c.first_stage.ensures in
    record { room = room.0; bytes_fit = room.1 }

pub read_marks-requires : goal.read_marks-requires
read_marks-requires c =
    let none = sym (rw c.view.ensures at c.in_ok-check.ensures) in
    let from = c.file_in-from.result in
    marks-room c.args.file.now _ none _ c.file_in-from.ensures _ _ _ from.form_is from.block_is from.count_is

pub read_stage-requires-2 : goal.read_stage-requires-2
read_stage-requires-2 c =
    let none = sym (rw c.view.ensures at c.in_ok-check.ensures) in
    let from = c.file_in-from.result in
    let room = second-room c.args.file.now _ none _ c.file_in-from.ensures _ _ _ from.form_is from.block_is from.count_is _ _ c.second_stage.ensures c.seconds.ensures in
    record { room = room.0; bytes_fit = room.1 }

pub read_years-requires : goal.read_years-requires
read_years-requires c =
    let none = sym (rw c.view.ensures at c.in_ok-check.ensures) in
    let from = c.file_in-from.result in
    let room = years-room c.args.file.now _ none _ c.file_in-from.ensures _ _ _ from.form_is from.block_is from.count_is in
    record { room = room.0; bytes_fit = room.1 }

pub returns-clause-answers : goal.returns-clause-answers
returns-clause-answers c =
    let none = sym (rw c.view.ensures at c.in_ok-check.ensures) in
    let from = c.file_in-from.result in
    let first = c.read_stage.ensures in
    let marks = c.read_marks.ensures in
    let second = c.read_stage-2.ensures in
    done c.args.file.now _ none _ c.file_in-from.ensures _ _ _ from.form_is from.block_is from.count_is _ _ _ _ _ _
    (record {
      stages-are = c.first_stage.ensures;
      second-are = c.second_stage.ensures;
      table_is = c.table.ensures;
      entries-are = c.entry_count.ensures;
      seconds-are = c.seconds.ensures;
      codes = first.codes_after;
      scales = first.scales_after;
      keys = marks.keys_after;
      keyed = marks.keyed_after;
      held = marks.held_after;
      alive = marks.alive_after;
      codes2 = second.codes_after;
      scales2 = second.scales_after;
      years = c.read_years.ensures;
    })
    _ c.index_in.ensures
