use Rattle.bound_certificate.proofs.best.best_bound.Goals as goal

pub best_bound_with-requires : goal.best_bound_with-requires
best_bound_with-requires c = record { good = rw (c.new-problem.ensures.chip, c.new-problem.ensures.limits) c.requires.good }

pub returns-clause-bound : goal.returns-clause-bound
returns-clause-bound c = rw (c.new-problem.ensures.chip, c.new-problem.ensures.limits) at c.best_bound_with.ensures.bound

pub returns-clause-elementary : goal.returns-clause-elementary
returns-clause-elementary c = rw (c.new-problem.ensures.chip, c.new-problem.ensures.limits) at c.best_bound_with.ensures.elementary
