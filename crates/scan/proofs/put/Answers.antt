use borrow.Author.Rules.{rules}
use Rattle.scan.proofs.Steps.{put-is}
use Rattle.scan.proofs.put.Goals as goal

pub returns : goal.returns
returns g c = rw c.copy_from_slice.ensures.after (put-is _ _ _ c.args.acc (search rules) c.requires)
