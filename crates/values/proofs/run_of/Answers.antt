use Rattle.values.proofs.Runs.{if_run}
use Rattle.values.proofs.run_of.Goals as goal

pub returns-clause-run : goal.returns-clause-run
returns-clause-run c = rw c.then_some.ensures (if_run c.args.width c.args.room c.args.field.now _ c.is_run.ensures)
