use mathlib.Core.Path.{ap}
use Rattle.header.specs.declared.Head.{Head}
use Rattle.read.proofs.Filled.{record_is}
use Rattle.read.proofs.index_in.Goals as goal

pub returns : goal.returns
returns c =
    let head = c.head_in-head.ensures in
    record_is c.args.file.now _ _ (ap (λ (h : Head). h.header) head) (ap (λ (h : Head). h.count) head)
