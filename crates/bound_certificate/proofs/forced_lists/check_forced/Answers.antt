use Rattle.soc_model.specs.Chips.{soc_value}
use Rattle.plan_model.specs.Views.{limits_value}
use Rattle.plan_model.specs.Certificates.{certificate_value}
use Rattle.plan_model.specs.Plans.{OfForced}
use Rattle.bound_certificate.proofs.Checks.{enough_is}
use Rattle.bound_certificate.proofs.forced_lists.check_forced.Goals as goal

pub returns-in-None : goal.returns-in-None
unfolding certificate_value
returns-in-None c = enough_is (soc_value c.args.soc.now) (limits_value c.args.limits.now) c.args.claimed (OfForced c.args.modules.now) c.forced_sum.result c.enough.result c.enough.ensures c.in-None.ensures c.forced_sum.ensures
