-- `plan::runner::run_plan` meets its contract. Assumes nothing.
use Rattle.plan.proofs.BothKinds.{thread_verdict, thread_ends_sound}
use Rattle.plan.proofs.runner.run_plan.Goals as goal

pub run-requires : goal.run-requires
run-requires c = thread_ends_sound

pub returns : goal.returns
returns c = rw (thread_verdict c.args.plan.now) c.run.ensures
