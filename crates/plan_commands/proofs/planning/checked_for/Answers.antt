use Rattle.plan_commands.proofs.planning.checked_for.Goals as goal

pub returns : goal.returns
returns c = rw (c.new-problem.ensures.chip, c.new-problem.ensures.limits) at c.in_ok-plan.ensures
