use Rattle.tester_commands.proofs.ShortRuns.{few_cycles}
use Rattle.tester_commands.proofs.programs.write_data_run.Goals as goal

pub write_run-requires-clause-cycles : goal.write_run-requires-clause-cycles
write_run-requires-clause-cycles g c = rw c.placed_plan.ensures.plan (few_cycles c.run.inside.all.plan c.run.invariant)
