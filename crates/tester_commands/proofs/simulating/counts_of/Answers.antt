use Rattle.tester_commands.proofs.simulating.counts_of.Goals as goal

pub run_plan-requires-clause-good : goal.run_plan-requires-clause-good
run_plan-requires-clause-good c = c.good_without_limits.ensures.alone c.placed_plan.result.soc c.args.all.now.limits c.placed_plan.result.plan c.placed_plan.ensures.good
