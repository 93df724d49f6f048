use Rattle.soc_model.specs.Chips.{soc_value}
use Rattle.plan_model.specs.Views.{limits_value, bound_value}
use Rattle.bound_certificate.proofs.Checks.{checked_accepts, checked_faults, checked_exact, checked_bounds}
use Rattle.bound_certificate.proofs.check_bound.Goals as goal

pub returns-clause-accepted : goal.returns-clause-accepted
returns-clause-accepted c = checked_accepts (soc_value c.args.soc.now) (limits_value c.args.limits.now) (bound_value c.args.bound.now) c.check_why.result c.check_why.ensures

pub returns-clause-fault : goal.returns-clause-fault
returns-clause-fault c = checked_faults (soc_value c.args.soc.now) (limits_value c.args.limits.now) (bound_value c.args.bound.now) c.check_why.result c.check_why.ensures

pub returns-clause-exact : goal.returns-clause-exact
returns-clause-exact c = checked_exact (soc_value c.args.soc.now) (limits_value c.args.limits.now) (bound_value c.args.bound.now) c.check_why.result c.check_why.ensures

pub returns-clause-bound : goal.returns-clause-bound
returns-clause-bound c = checked_bounds (soc_value c.args.soc.now) (limits_value c.args.limits.now) (bound_value c.args.bound.now) c.check_why.result c.requires.limits.some_wire c.check_why.ensures
