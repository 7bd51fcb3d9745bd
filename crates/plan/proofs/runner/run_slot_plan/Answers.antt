-- `plan::runner::run_slot_plan` meets its contract. Assumes nothing.
use Rattle.plan.proofs.BothKinds.{table_verdict, table_ends_sound}
use Rattle.plan.proofs.runner.run_slot_plan.Goals as goal

pub run-requires : goal.run-requires
run-requires c = table_ends_sound

pub returns : goal.returns
returns c = rw (table_verdict c.args.plan.now) c.run.ensures
