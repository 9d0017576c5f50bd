use native.Mathlib.Omega.{arith}
use lib.ListN.{get_or}
use lib.Ieee.{nan}
use Rattle.lloyd.proofs.Quantized.{quantized-le}
use Rattle.quantizer.proofs.Summing.{coding-none, coding-next, coding-all}
use Rattle.quantizer.proofs.Boundaries.write_codes.Goals as goal

pub loop-i-init : goal.loop-i-init
loop-i-init c = let a = c.args in coding-none a.table.now a.self.now.all.now a.xs.now a.codes.now

pub overflow_cast-codes : goal.overflow_cast-codes
overflow_cast-codes c = omega (arith, c.code_of-code.ensures, quantized-le c.args.self.now.all.now (get_or c.args.xs.now c.loop-i.i nan))

pub offset_bounds-table-code : goal.offset_bounds-table-code
offset_bounds-table-code c = omega (arith, c.code_of-code.ensures, quantized-le c.args.self.now.all.now (get_or c.args.xs.now c.loop-i.i nan))

pub bounds-table-code : goal.bounds-table-code
bounds-table-code c = omega (arith, c.code_of-code.ensures, quantized-le c.args.self.now.all.now (get_or c.args.xs.now c.loop-i.i nan))

pub loop-i-preserved : goal.loop-i-preserved
loop-i-preserved c =
    let at = c.loop-i in
    coding-next c.args.table.now c.args.self.now.all.now c.args.xs.now c.args.codes.now at.i at.codes at.sum at.invariant
    (omega arith) c.requires.1 (omega (arith, c.requires)) c.code_of-code.result c.code_of-code.ensures

pub returns-clause-codes : goal.returns-clause-codes
returns-clause-codes c =
    let a = c.args in
    let at = c.loop-i in
    (coding-all a.table.now a.self.now.all.now a.xs.now a.codes.now at.i at.codes at.sum at.invariant (omega arith)).1
