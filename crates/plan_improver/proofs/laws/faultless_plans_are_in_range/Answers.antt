use Rattle.plan_improver.proofs.InRange.{faultless_in_range}
use Rattle.plan_improver.proofs.laws.faultless_plans_are_in_range.Goals as goal

pub returns : goal.returns
returns c = faultless_in_range (record { ends = c.tests_are_short.ensures.ends; bound = c.certificates_are_bounds.ensures.accepted })
