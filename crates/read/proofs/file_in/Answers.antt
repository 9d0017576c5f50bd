use Rattle.std.proofs.Common.{ap, ◌∙◌, arith}
use Rattle.header.specs.declared.Head.{Head}
use Rattle.index.specs.Form.{form_of}
use Rattle.read.proofs.Limits.{few-slots, low-block, block-is}
use Rattle.read.proofs.file_in.Goals as goal

pub overflow_cast-result : goal.overflow_cast-result
overflow_cast-result c =
    let f = c.args.bytes.now in
    omega (arith, low-block f c.requires.0 c.requires.1, block-is f c.requires.0 _ _ c.index_in.ensures c.block_size.ensures)

pub invariant_of-result : goal.invariant_of-result
invariant_of-result c =
    let f = c.args.bytes.now in
    let head = c.head_in-head.ensures in
    let count = ap (λ (h : Head). h.count) head in
    let block = block-is f c.requires.0 _ _ c.index_in.ensures c.block_size.ensures in
    record {
      form_is = c.form_of.ensures ∙ ap (λ (h : Head). form_of h.version) head;
      block_is = block;
      count_is = count;
      few_slots = omega (arith, count, few-slots f c.requires.1);
    }
