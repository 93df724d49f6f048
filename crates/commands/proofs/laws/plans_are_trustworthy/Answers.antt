use Rattle.commands.proofs.laws.plans_are_trustworthy.Goals as goal

pub returns : goal.returns
returns c = record { right = c.good_plans_run_right.ensures; bound = c.certificates_are_bounds.ensures.accepted }
