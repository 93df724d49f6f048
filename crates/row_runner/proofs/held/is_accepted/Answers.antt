use Rattle.row_runner.proofs.held.is_accepted.Goals as goal

pub returns : goal.returns
returns c = rw (c.new-problem.ensures.chip, c.new-problem.ensures.limits) at c.in_ok-accepted.ensures
