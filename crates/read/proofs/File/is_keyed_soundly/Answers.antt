use Rattle.std.proofs.Common.{◌∙◌}
use Rattle.read.proofs.Limits.{sound-is}
use Rattle.read.proofs.File.is_keyed_soundly.Goals as goal

pub returns : goal.returns
returns c = c.each_once.ensures ∙ sound-is c.args.self.now.bytes.now _ _ _ c.table.ensures c.entry_count.ensures c.args.self.now.count_is
